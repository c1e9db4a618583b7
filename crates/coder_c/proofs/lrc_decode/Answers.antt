use Rattle.std.proofs.Common.{◌≡◌, ℕ, ◌+◌, ◌<◌, ◌^◌, List, map, refl, sym, subst, arith}
use Rattle.std.proofs.lemmas.Bool.{true≢false}
use Rattle.lrc_code.specs.declared.Code.{Code}
use Rattle.lrc_code.specs.Code.{is_lost}
use Rattle.decode.specs.Decoding.{HasOpen}
use Rattle.coder_c.specs.Call.{code_with, AreLostIn, HaveRoomFor, LeftReach, chosen_of}
use Rattle.coder_c.proofs.Chosen.{some_and, and_some, decodes_there, has_open_same, are_lost_same, reach_same}
use Rattle.coder_c.proofs.lrc_decode.Goals as goal

pub returns-then-not-are_taken-clause-taken : goal.returns-then-not-are_taken-clause-taken
returns-then-not-are_taken-clause-taken c =
    let code = c.in-Some.code in
    let t : ℕ = c.of_bits-lost.result in
    let given = chosen_of c.args.numbers.now in
    let fragments : List (List ℕ) = map (λ f. f.now) c.args.fragments.now in (
      λ h. absurd (h refl),
      λ h. absurd (true≢false (sym (let here = and_some (code_with c.args.data_fragments) code
          (λ code. AreLostIn code c.args.lost given × HaveRoomFor given c.args.w c.args.first.now c.args.second.now c.args.third.now c.args.fourth.now × LeftReach code fragments c.args.lost (c.args.from + c.args.w) × (c.args.from + c.args.w < 2 ^ 64))
          (sym c.in-Some.ensures) h in
          c.if-not-are_taken.ensures.1 (
            subst (AreLostIn code t) (sym c.chosen_of-chosen.ensures) (are_lost_same code c.args.lost t given (λ i. sym (c.of_bits-lost.ensures i)) here.0),
            subst (λ o. HaveRoomFor o c.args.w c.args.first.now c.args.second.now c.args.third.now c.args.fourth.now) (sym c.chosen_of-chosen.ensures) here.1,
          )))),
    )

pub returns-clause-first : goal.returns-clause-first
returns-clause-first c done =
    decodes_there (code_with c.args.data_fragments) c.in-Some.code (map (λ f. f.now) c.args.fragments.now) c.of_bits-lost.result c.args.lost 0 c.chosen_of-chosen.result (chosen_of c.args.numbers.now)
    c.args.from c.in-Some-checked_add.to (c.args.from + c.args.w) c.args.first.now c.decode_left.new.first (sym c.in-Some.ensures) c.of_bits-lost.ensures c.chosen_of-chosen.ensures (omega arith) (c.decode_left.ensures.first done)

pub returns-clause-second : goal.returns-clause-second
returns-clause-second c done =
    decodes_there (code_with c.args.data_fragments) c.in-Some.code (map (λ f. f.now) c.args.fragments.now) c.of_bits-lost.result c.args.lost 1 c.chosen_of-chosen.result (chosen_of c.args.numbers.now)
    c.args.from c.in-Some-checked_add.to (c.args.from + c.args.w) c.args.second.now c.decode_left.new.second (sym c.in-Some.ensures) c.of_bits-lost.ensures c.chosen_of-chosen.ensures (omega arith) (c.decode_left.ensures.second done)

pub returns-clause-third : goal.returns-clause-third
returns-clause-third c done =
    decodes_there (code_with c.args.data_fragments) c.in-Some.code (map (λ f. f.now) c.args.fragments.now) c.of_bits-lost.result c.args.lost 2 c.chosen_of-chosen.result (chosen_of c.args.numbers.now)
    c.args.from c.in-Some-checked_add.to (c.args.from + c.args.w) c.args.third.now c.decode_left.new.third (sym c.in-Some.ensures) c.of_bits-lost.ensures c.chosen_of-chosen.ensures (omega arith) (c.decode_left.ensures.third done)

pub returns-clause-fourth : goal.returns-clause-fourth
returns-clause-fourth c done =
    decodes_there (code_with c.args.data_fragments) c.in-Some.code (map (λ f. f.now) c.args.fragments.now) c.of_bits-lost.result c.args.lost 3 c.chosen_of-chosen.result (chosen_of c.args.numbers.now)
    c.args.from c.in-Some-checked_add.to (c.args.from + c.args.w) c.args.fourth.now c.decode_left.new.fourth (sym c.in-Some.ensures) c.of_bits-lost.ensures c.chosen_of-chosen.ensures (omega arith) (c.decode_left.ensures.fourth done)

pub returns-clause-open : goal.returns-clause-open
returns-clause-open c =
    let code = c.in-Some.code in
    let t : ℕ = c.of_bits-lost.result in
    let given = chosen_of c.args.numbers.now in (
      λ is_open. let h = c.decode_left.ensures.open.0 is_open in (
        h.0,
        some_and (code_with c.args.data_fragments) code (λ code. HasOpen code (is_lost c.args.lost) given) (sym c.in-Some.ensures)
            (has_open_same code t c.args.lost given c.of_bits-lost.ensures (subst (HasOpen code (is_lost t)) c.chosen_of-chosen.ensures h.1)),
      ),
      λ h. c.decode_left.ensures.open.1 (
        h.0,
        subst (HasOpen code (is_lost t)) (sym c.chosen_of-chosen.ensures)
            (has_open_same code c.args.lost t given (λ i. sym (c.of_bits-lost.ensures i)) (and_some (code_with c.args.data_fragments) code (λ code. HasOpen code (is_lost c.args.lost) given) (sym c.in-Some.ensures) h.1)),
      ),
    )

pub returns-clause-taken : goal.returns-clause-taken
returns-clause-taken c =
    let code = c.in-Some.code in
    let t : ℕ = c.of_bits-lost.result in
    let u : ℕ = c.args.lost in
    let given = chosen_of c.args.numbers.now in
    let fragments : List (List ℕ) = map (λ f. f.now) c.args.fragments.now in
    let end : ℕ = c.args.from + c.args.w in
    let end_is : c.in-Some-checked_add.to ≡ end = omega arith in
    let taken = c.if-not-are_taken.ensures.0 refl in
    let all = λ (code : Code). AreLostIn code u given × HaveRoomFor given c.args.w c.args.first.now c.args.second.now c.args.third.now c.args.fourth.now × LeftReach code fragments u end × (end < 2 ^ 64) in (
      λ ok. some_and (code_with c.args.data_fragments) code all (sym c.in-Some.ensures) (
        are_lost_same code t u given c.of_bits-lost.ensures (subst (AreLostIn code t) c.chosen_of-chosen.ensures taken.0),
        subst (λ o. HaveRoomFor o c.args.w c.args.first.now c.args.second.now c.args.third.now c.args.fourth.now) c.chosen_of-chosen.ensures taken.1,
        reach_same code fragments t u end c.of_bits-lost.ensures (subst (LeftReach code fragments t) end_is (c.decode_left.ensures.taken.0 ok)),
        omega arith,
      ),
      λ h. c.decode_left.ensures.taken.1 (subst (LeftReach code fragments t) (sym end_is) (reach_same code fragments u t end (λ i. sym (c.of_bits-lost.ensures i)) (and_some (code_with c.args.data_fragments) code all (sym c.in-Some.ensures) h).2)),
    )
