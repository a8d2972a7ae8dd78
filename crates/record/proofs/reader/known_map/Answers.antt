use mathlib.Core.Path.{◌≡◌, refl, sym}
use mathlib.Core.Bool.{true}
use Rattle.definitions.specs.TicketRecords.{known_map, known_maps}
use Rattle.definitions.proofs.Bools.{in-arm, past-arm}
use Rattle.definitions.proofs.TicketRecords.{unknown}
use Rattle.record.proofs.reader.known_map.Goals as goal

pub returns-in-55 : goal.returns-in-55
unfolding known_map
returns-in-55 c =
    in-arm (λ m. true ≡ known_map m) c.args.map known_maps c.in-55.is
    (refl, (refl, (refl, (refl, (refl, (refl, (refl, (refl, tt))))))))

pub returns-in_default : goal.returns-in_default
returns-in_default c =
    sym (unknown c.args.map (past-arm c.args.map known_maps c.in_default.in_default-own.rest.1))
