use mathlib.Core.Path.{◌≡◌, sym, ◌∙◌}
use Prim.Native.Nat.{◌+◌, ◌*◌, ◌-◌}
use native.Mathlib.Nat.{zero-add}
use native.Mathlib.Omega.{arith}
use lib.ListN.{length, take, drop}
use Rattle.std.proofs.lemmas.List.{length-take}
use Rattle.ledger.proofs.Lookups.{none_more, none_in, none_before, lane-found, lane-none, part-at, first-at, first-none}
use Rattle.ledger.proofs.held.HeldTickets.place_of.Goals as goal

pub loop-k-init : goal.loop-k-init
loop-k-init c =
    let w = c.args.self.words.now in
    let number = c.args.number in
    let near = c.passed-near.result in
    let m = c.passed.result in
    let numbers = c.first_numbers-numbers.result.now in
    let rest = take (length numbers - near) (drop near numbers) in
    let word = c.first_numbers-numbers.ensures.each in
    none_more w number 0 (4 * near) (4 * (near + m))
    (rw zero-add at (none_in w number numbers 0 near (λ j l. let z : 8 + (0 + j) ≡ 8 + j = omega arith in rw z (word j (omega (arith, c.passed-near.ensures.bounded, c.first_numbers-numbers.ensures.all)))) c.passed-near.ensures.passed))
    (none_in w number rest near m
    (λ j l. part-at numbers near (length numbers - near) j (omega (arith, c.passed.ensures.bounded))
    ∙ word (near + j) (omega (arith, c.passed.ensures.bounded, c.first_numbers-numbers.ensures.all, length-take (length numbers - near) (drop near numbers))))
    c.passed.ensures.passed)

pub returns-in-Some : goal.returns-in-Some
returns-in-Some c =
    let w = c.args.self.words.now in
    let number = c.args.number in
    let k = c.loop-k.k in
    let lane = c.in-Some.lane in
    let found = rw c.read.ensures at c.in-Some.ensures in
    c.place.ensures
    ∙ sym (first-at w number (4 * k + lane) (none_more w number 0 (4 * k) (4 * k + lane) c.loop-k.invariant (none_before w number k lane (omega (arith, found.0)) found.1)) (lane-found w number k lane found.0 found.2))

pub loop-k-preserved : goal.loop-k-preserved
loop-k-preserved c =
    let w = c.args.self.words.now in
    let number = c.args.number in
    let k = c.loop-k.k in
    let e : 4 * k + 4 ≡ 4 * (k + 1) = omega arith in
    let none = lane-none c.read.result number c.lane_of.result c.in_default.is c.lane_of.ensures in
    none_more w number 0 (4 * k) (4 * (k + 1)) c.loop-k.invariant (rw e at (none_before w number k 4 (omega arith) (rw c.read.ensures at none)))

pub returns : goal.returns
returns c =
    let w = c.args.self.words.now in
    sym (first-none w c.args.number (4 * c.loop-k.k) (omega (arith, c.args.self.counted)) c.loop-k.invariant)
