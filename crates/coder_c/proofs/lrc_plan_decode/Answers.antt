use Rattle.std.proofs.Common.{◌≡◌, ℕ, ◌+◌, List, map, refl, sym, subst, arith}
use Rattle.std.proofs.lemmas.Bool.{true≢false}
use Rattle.coder_c.specs.Call.{LeftReach}
use Rattle.coder_c.proofs.Chosen.{are_lost_same}
use Rattle.coder_c.proofs.Planned.{decodes_by_bytes, takes_bytes, takes_plan}
use Rattle.coder_c.proofs.lrc_plan_decode.Goals as goal

pub returns-then-not-are_taken-clause-taken : goal.returns-then-not-are_taken-clause-taken
returns-then-not-are_taken-clause-taken c =
    let p = c.in-Some.planned in
    let t : ℕ = c.of_bits-missing.result in (
      λ h. absurd (h refl),
      λ h. let takes = takes_plan c.args.plan.now p c.in-Some.ensures.1 c.in-Some.ensures.2 (map (λ f. f.now) c.args.fragments.now) c.args.w (c.args.from + c.args.w) c.args.first.now c.args.second.now c.args.third.now c.args.fourth.now h in
          absurd (true≢false (sym (c.if-not-are_taken.ensures.1 (are_lost_same p.code p.missing t p.chosen (λ i. sym (c.of_bits-missing.ensures i)) takes.0, takes.1)))),
    )

pub decode_planned-requires-clause-lost : goal.decode_planned-requires-clause-lost
decode_planned-requires-clause-lost c =
    are_lost_same c.in-Some.planned.code c.of_bits-missing.result c.in-Some.planned.missing c.in-Some.planned.chosen c.of_bits-missing.ensures (c.if-not-are_taken.ensures.0 refl).0

pub returns-then-decode_planned-clause-first : goal.returns-then-decode_planned-clause-first
returns-then-decode_planned-clause-first c = λ _.
    decodes_by_bytes c.args.plan.now c.in-Some.planned c.in-Some.ensures.1 c.in-Some.ensures.2 (map (λ f. f.now) c.args.fragments.now) 0 c.args.from c.in-Some-checked_add.to (c.args.from + c.args.w) c.args.first.now c.decode_planned.new.first
    (omega arith) (c.decode_planned.ensures.first c.if-decode_planned.true)

pub returns-then-decode_planned-clause-second : goal.returns-then-decode_planned-clause-second
returns-then-decode_planned-clause-second c = λ _.
    decodes_by_bytes c.args.plan.now c.in-Some.planned c.in-Some.ensures.1 c.in-Some.ensures.2 (map (λ f. f.now) c.args.fragments.now) 1 c.args.from c.in-Some-checked_add.to (c.args.from + c.args.w) c.args.second.now c.decode_planned.new.second
    (omega arith) (c.decode_planned.ensures.second c.if-decode_planned.true)

pub returns-then-decode_planned-clause-third : goal.returns-then-decode_planned-clause-third
returns-then-decode_planned-clause-third c = λ _.
    decodes_by_bytes c.args.plan.now c.in-Some.planned c.in-Some.ensures.1 c.in-Some.ensures.2 (map (λ f. f.now) c.args.fragments.now) 2 c.args.from c.in-Some-checked_add.to (c.args.from + c.args.w) c.args.third.now c.decode_planned.new.third
    (omega arith) (c.decode_planned.ensures.third c.if-decode_planned.true)

pub returns-then-decode_planned-clause-fourth : goal.returns-then-decode_planned-clause-fourth
returns-then-decode_planned-clause-fourth c = λ _.
    decodes_by_bytes c.args.plan.now c.in-Some.planned c.in-Some.ensures.1 c.in-Some.ensures.2 (map (λ f. f.now) c.args.fragments.now) 3 c.args.from c.in-Some-checked_add.to (c.args.from + c.args.w) c.args.fourth.now c.decode_planned.new.fourth
    (omega arith) (c.decode_planned.ensures.fourth c.if-decode_planned.true)

pub returns-then-decode_planned-clause-taken : goal.returns-then-decode_planned-clause-taken
returns-then-decode_planned-clause-taken c =
    let p = c.in-Some.planned in
    let fragments : List (List ℕ) = map (λ f. f.now) c.args.fragments.now in
    let end_is : c.in-Some-checked_add.to ≡ c.args.from + c.args.w = omega arith in
    let taken = c.if-not-are_taken.ensures.0 refl in (
      λ _. takes_bytes c.args.plan.now p c.in-Some.ensures.1 c.in-Some.ensures.2 fragments c.args.w (c.args.from + c.args.w) c.args.first.now c.args.second.now c.args.third.now c.args.fourth.now c.in-Some.ensures.0 (
        are_lost_same p.code c.of_bits-missing.result p.missing p.chosen c.of_bits-missing.ensures taken.0,
        taken.1,
        subst (LeftReach p.code fragments p.missing) end_is (c.decode_planned.ensures.taken.0 c.if-decode_planned.true),
        omega arith,
      ),
      λ _ e. absurd (cc e),
    )
