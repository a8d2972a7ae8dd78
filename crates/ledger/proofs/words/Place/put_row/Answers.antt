use Prim.Native.Nat.{◌+◌, ◌*◌}
use Rattle.ledger.proofs.Rows.{four_put}
use Rattle.ledger.proofs.words.Place.put_row.Goals as goal

pub returns : goal.returns
returns c =
    let a = c.args in
    four_put a.words.now a.row.now (136 + 4 * a.self.index) c.told-row
