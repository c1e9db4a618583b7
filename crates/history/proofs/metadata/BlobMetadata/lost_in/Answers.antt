use Rattle.std.proofs.Common.{◌≡◌, ℕ, ◌||◌, Bool, true, false, List, [], ◌∷◌, refl, sym, ap, ◌∙◌, rules}
use Rattle.std.specs.List.{list_any, list_all, filter}
use Rattle.std.specs.BTreeMap.{is_at}
use Rattle.std.specs.BTreeSet.{keys_between}
use Rattle.std.specs.declared.ops.Bound.TheVariants.{Included}
use Rattle.std.proofs.lemmas.Bool.{and_parts}
use Rattle.lrc_code.specs.Code.{is_lost}
use Rattle.sealed.specs.Blob.{pair_cmp}
use Rattle.history.proofs.Keeping.{is_of, of_stripe, any_own, all_own, one_seen}
use Rattle.history.proofs.metadata.BlobMetadata.lost_in.Goals as goal

or_false : (b : Bool) → (b || false) ≡ b
or_false true = refl
or_false false = refl

pub loop-f-init : goal.loop-f-init
loop-f-init c =
    let j = c.args.stripe in
    let keys = c.args.self.now.lost.keys in
    let items : c.into_iter-f-iterator.result ≡ filter (is_of j) keys =
    c.into_iter-f-iterator.ensures.into_iter_gives ∙ c.range-f-items.ensures.between c.new.ensures.exhausted
    ∙ (λ i. keys_between pair_cmp (Included (c.new.ensures.start i)) (Included (c.new.ensures.end i)) c.args.self.now.lost) in
    record {
      told = λ g few.
          ap (λ (b : Bool). b || list_any (is_at (pair_cmp (j, g))) c.into_iter-f-iterator.result) (c.empty-lost.ensures g)
          ∙ ap (list_any (is_at (pair_cmp (j, g)))) items ∙ any_own j g few keys;
      ahead = ap (list_all (is_of j)) items ∙ all_own j keys;
    }

pub with-lost-requires : goal.with-lost-requires
with-lost-requires c =
    let at : c.loop-f.f-iterator ≡ c.in-Some.field-0.now ∷ c.next.new.self = search rules in
    let first = and_parts (is_of c.args.stripe c.in-Some.field-0.now) _ (ap (list_all (is_of c.args.stripe)) (sym at) ∙ c.loop-f.invariant.ahead) in
    (of_stripe c.args.stripe c.in-Some.field-0.now first.0).1

pub loop-f-preserved : goal.loop-f-preserved
loop-f-preserved c =
    let j = c.args.stripe in
    let p = c.in-Some.field-0.now in
    let at : c.loop-f.f-iterator ≡ p ∷ c.next.new.self = search rules in
    let parts = and_parts (is_of j p) _ (ap (list_all (is_of j)) (sym at) ∙ c.loop-f.invariant.ahead) in
    record {
      told = λ g few.
          sym (one_seen j g p.0 p.1 c.next.new.self (is_lost c.loop-f.lost g) (is_lost c.with-lost.result g) parts.0 (c.with-lost.ensures g))
          ∙ ap (λ (items : List (ℕ × ℕ)). is_lost c.loop-f.lost g || list_any (is_at (pair_cmp (j, g))) items) (sym at) ∙ c.loop-f.invariant.told g few;
      ahead = parts.1;
    }

pub returns : goal.returns
returns c g few =
    let at : c.loop-f.f-iterator ≡ [] = search rules in
    sym (or_false (is_lost c.loop-f.lost g))
    ∙ ap (λ (items : List (ℕ × ℕ)). is_lost c.loop-f.lost g || list_any (is_at (pair_cmp (c.args.stripe, g))) items) (sym at) ∙ c.loop-f.invariant.told g few
