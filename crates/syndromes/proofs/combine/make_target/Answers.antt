use Rattle.std.proofs.Common.{◌≡◌, ℕ, ◌+◌, ◌-◌, ◌<◌, List, Some, length, map, bit_xor, ap, ◌∙◌, arith}
use Rattle.kernels.specs.Lists.{combined, bytes_at}
use Rattle.syndromes.specs.Syndromes.{wide_syndrome, column_at, sum_by, HasSums, HasRoom}
use Rattle.syndromes.specs.Formulas.{IsFormula, addend}
use Rattle.one_pass.proofs.Taken.{combined_taken}
use Rattle.one_pass.proofs.Written.{spliced}
use Rattle.syndromes.proofs.Made.{made_by}
use Rattle.syndromes.proofs.combine.make_target.Goals as goal

pub returns-in-Some-clause-made : goal.returns-in-Some-clause-made
returns-in-Some-clause-made c =
    let f = c.in-Some.formula in
    let lists = c.args.block.now.lists.now in
    let at : ℕ = c.args.block.now.at in
    let end : ℕ = c.args.block.now.end in
    let x : List ℕ = c.args.first.now in
    let y : List ℕ = c.args.second.now in
    let z : List ℕ = c.args.third.now in
    let given : IsFormula f × HasRoom f.first end x × HasRoom f.second end y × HasRoom f.third end z × HasSums lists f.first end x × HasSums lists f.second end y × HasSums lists f.third end z =
    rw c.in-Some.is at c.requires.formula in
    let before : HasSums lists (Some f.shares) at c.args.target.now = rw c.in-Some.is at c.requires.before in
    let room : HasRoom (Some f.shares) end c.args.target.now = rw c.in-Some.is at c.requires.room in
    let long : length c.make_part.new.part ≡ end - at = omega (arith, c.make_part.auto.part, room, c.requires.order) in
    let takes = rw c.in-Some.is at c.requires.takes in
    let are = c.requires.are in
    let four : (j : ℕ) → j < end - at → combined f.factors (bytes_at (map (λ s. s.now) c.args.block.now.syndromes) j) ≡ combined f.factors (λ e. wide_syndrome e (column_at lists (at + j))) =
    λ j l. combined_taken f.factors _ (λ e. wide_syndrome e (column_at lists (at + j))) c.args.block.now.has_second c.args.block.now.has_third c.args.block.now.has_fourth given.0.four (are.first j l) (λ on. are.second_is on j l) (λ on. are.third_is on j l) (λ on. are.fourth_is on j l) takes.0 takes.1 takes.2 in
    rw c.in-Some.is
    (spliced c.args.target.now c.make_part.new.part _ at end (λ k. sum_by f.shares (λ e. wide_syndrome e (column_at lists k)))
    (omega (arith, room, c.requires.order)) c.requires.order long before
    (λ j l. c.make_part.ensures j (omega (arith, long))
    ∙ ap (λ w. bit_xor (bit_xor (bit_xor w (addend f.third z (at + j))) (addend f.second y (at + j))) (addend f.first x (at + j))) (four j l)
    ∙ made_by f lists x y z end (at + j) (omega arith) given.0 given.4 given.5 given.6))
