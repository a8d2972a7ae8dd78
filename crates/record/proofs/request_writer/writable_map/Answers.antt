use Rattle.std.proofs.Common.{◌∙◌}
use Rattle.definitions.specs.RequestWriting.{drafted}
use Rattle.record.proofs.Cursor.{map-writable, map-unwritable}
use Rattle.record.proofs.request_writer.writable_map.Goals as goal

pub returns-in_err-map : goal.returns-in_err-map
returns-in_err-map c = c.from_residual.ensures ∙ map-unwritable (drafted c.args.draft) c.in_err-map.ensures

pub returns : goal.returns
returns c = c.then_some.ensures ∙ map-writable (drafted c.args.draft) c.in_ok-map.map c.in_ok-map.ensures _ c.draft_fits.ensures
