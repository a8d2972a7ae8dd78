use Rattle.std.proofs.Common.{arith}
use Rattle.definitions.proofs.Fields.{number-two}
use Rattle.record.proofs.map_of.Goals as goal

pub returns : goal.returns
returns c = omega (arith, number-two c.args.bytes.now)
