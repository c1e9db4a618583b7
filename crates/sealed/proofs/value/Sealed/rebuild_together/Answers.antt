use Rattle.std.proofs.Common.{◌≡◌, ℕ, List, None, length, drop, true, ap, subst, ◌∙◌}
use Rattle.std.specs.Prelude.{slice_index_or}
use Rattle.std.specs.Option.{option_map}
use Rattle.lrc_code.proofs.Parities.{written_back}
use Rattle.decode.specs.Decoding.{IsDecoded}
use Rattle.sealed.specs.Rebuilding.{IsChosenPart}
use Rattle.sealed.proofs.Decoded.{chosen_part, none_open, each_of_four, true_if}
use Rattle.sealed.proofs.value.Sealed.rebuild_together.Goals as goal

pub returns : goal.returns
returns c =
    let closed = none_open c.args.self.now c.args.stripe c.requires.stripe c.left_of-left.result.code c.left_of-left.ensures.code c.left_of-left.result.fragments c.left_of-left.ensures.slots c.args.chosen c.requires.lost in
    let done : c.decode_to.result ≡ true = true_if c.decode_to.result (λ e. closed (c.decode_to.ensures.open.0 e)) in
    each_of_four (λ i part. IsChosenPart c.args.self.now c.args.stripe c.args.from c.args.to (slice_index_or c.args.chosen i None) (option_map (λ v. v.items) part))
    c.if_chosen.result c.if_chosen-2.result c.if_chosen-3.result c.if_chosen-4.result None
    (chosen_part c.args.self.now c.args.stripe c.requires.stripe c.left_of-left.result.code c.left_of-left.ensures.code c.left_of-left.result.fragments c.left_of-left.ensures.slots (λ v. v.items) (slice_index_or c.args.chosen 0 None) c.args.from c.args.to c.in_ok-first.first.items c.decode_to.new.first c.if_chosen.result _
    c.requires.range.1 c.in_ok-first.ensures (c.decode_to.auto.first ∙ ap length c.deref_mut.ensures.value) (subst (λ (old : List ℕ). IsDecoded c.left_of-left.result.code c.left_of-left.result.fragments (slice_index_or c.args.chosen 0 None) c.args.from c.args.to old c.decode_to.new.first) c.deref_mut.ensures.value (c.decode_to.ensures.first done)) c.if_chosen.ensures
    (written_back c.in_ok-first.first.len c.decode_to.new.first (drop (length c.decode_to.new.first) c.in_ok-first.first.items) (c.decode_to.auto.first ∙ c.deref_mut.ensures.len)))
    (chosen_part c.args.self.now c.args.stripe c.requires.stripe c.left_of-left.result.code c.left_of-left.ensures.code c.left_of-left.result.fragments c.left_of-left.ensures.slots (λ v. v.items) (slice_index_or c.args.chosen 1 None) c.args.from c.args.to c.in_ok-second.second.items c.decode_to.new.second c.if_chosen-2.result _
    c.requires.range.1 c.in_ok-second.ensures (c.decode_to.auto.second ∙ ap length c.deref_mut-2.ensures.value) (subst (λ (old : List ℕ). IsDecoded c.left_of-left.result.code c.left_of-left.result.fragments (slice_index_or c.args.chosen 1 None) c.args.from c.args.to old c.decode_to.new.second) c.deref_mut-2.ensures.value (c.decode_to.ensures.second done)) c.if_chosen-2.ensures
    (written_back c.in_ok-second.second.len c.decode_to.new.second (drop (length c.decode_to.new.second) c.in_ok-second.second.items) (c.decode_to.auto.second ∙ c.deref_mut-2.ensures.len)))
    (chosen_part c.args.self.now c.args.stripe c.requires.stripe c.left_of-left.result.code c.left_of-left.ensures.code c.left_of-left.result.fragments c.left_of-left.ensures.slots (λ v. v.items) (slice_index_or c.args.chosen 2 None) c.args.from c.args.to c.in_ok-third.third.items c.decode_to.new.third c.if_chosen-3.result _
    c.requires.range.1 c.in_ok-third.ensures (c.decode_to.auto.third ∙ ap length c.deref_mut-3.ensures.value) (subst (λ (old : List ℕ). IsDecoded c.left_of-left.result.code c.left_of-left.result.fragments (slice_index_or c.args.chosen 2 None) c.args.from c.args.to old c.decode_to.new.third) c.deref_mut-3.ensures.value (c.decode_to.ensures.third done)) c.if_chosen-3.ensures
    (written_back c.in_ok-third.third.len c.decode_to.new.third (drop (length c.decode_to.new.third) c.in_ok-third.third.items) (c.decode_to.auto.third ∙ c.deref_mut-3.ensures.len)))
    (chosen_part c.args.self.now c.args.stripe c.requires.stripe c.left_of-left.result.code c.left_of-left.ensures.code c.left_of-left.result.fragments c.left_of-left.ensures.slots (λ v. v.items) (slice_index_or c.args.chosen 3 None) c.args.from c.args.to c.in_ok-fourth.fourth.items c.decode_to.new.fourth c.if_chosen-4.result _
    c.requires.range.1 c.in_ok-fourth.ensures (c.decode_to.auto.fourth ∙ ap length c.deref_mut-4.ensures.value) (subst (λ (old : List ℕ). IsDecoded c.left_of-left.result.code c.left_of-left.result.fragments (slice_index_or c.args.chosen 3 None) c.args.from c.args.to old c.decode_to.new.fourth) c.deref_mut-4.ensures.value (c.decode_to.ensures.fourth done)) c.if_chosen-4.ensures
    (written_back c.in_ok-fourth.fourth.len c.decode_to.new.fourth (drop (length c.decode_to.new.fourth) c.in_ok-fourth.fourth.items) (c.decode_to.auto.fourth ∙ c.deref_mut-4.ensures.len)))
