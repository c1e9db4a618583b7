-- The base after calls outlines the state after them.
use Rattle.std.proofs.Common.{◌≡◌, ℕ, ◌+◌, Bool, true, false, List, map, Option, None, Some, cond, refl, sym, ap, ◌∙◌, subst, arith}
use Rattle.std.specs.Prelude.{count_by}
use Rattle.std.specs.Option.{option_map, option_or}
use Rattle.std.specs.BTreeMap.{BTreeMap, get}
use Rattle.history.specs.State.{State}
use Rattle.history.specs.History.{History, IsLegalFrom, after_all, entry_of, is_put}
use Rattle.history.specs.Base.{Checkpoint, Outlines, IsRising}
use Rattle.history.specs.Names.{name_cmp}
use Rattle.history.specs.Parts.{changes_of, is_changed}
use Rattle.history.specs.Views.{View, Views, view, empty_views, AreNoted, all_next}
use Rattle.history.specs.Metadata.{outlines_of, seen_as, views_of}
use Rattle.history.specs.declared.metadata.BlobMetadata.{BlobMetadata}
use Rattle.history.specs.declared.note.Entry.{Entry}
use Rattle.history.specs.declared.replay.Replay.{Replay}
use Rattle.history.proofs.Framing.{over, AreWithin, all_next_over, noted_within, all_next-changes, noted-changes, changes_within}
use Rattle.history.proofs.Outlining.{view_outlined, outlines_are}
use Rattle.history.proofs.Puts.{puts-after_all}
use Rattle.history.proofs.Shapes.{legal_noted, view_all}

pub outlined_after : (w : ℕ) (base later : Checkpoint) (r t : Replay) (es : List Entry) → outlines_of r ≡ base.names → r.puts ≡ base.puts
    → (AreNoted w (views_of r) es → views_of t ≡ all_next (views_of r) es) → IsRising (outlines_of t) → later.names ≡ outlines_of t → later.puts ≡ base.puts + count_by is_put es
    → (s : State) (h : History) → Outlines base s → IsLegalFrom w s h → map entry_of h ≡ es → Outlines later (after_all s h)
outlined_after w base later r t es names puts follows rise later_names later_puts s h is legal same =
    let shown : view s ≡ views_of r = view_outlined base s r is names puts in
    let noted : AreNoted w (views_of r) es = subst (AreNoted w (views_of r)) same (subst (λ (v : Views). AreNoted w v (map entry_of h)) shown (legal_noted w s h legal)) in
    let after : view (after_all s h) ≡ views_of t = view_all s h ∙ (λ i. all_next (shown i) (same i)) ∙ sym (follows noted) in
    record {
      puts = omega (arith, later_puts, is.puts, puts-after_all s h, ap (count_by is_put) same);
      names = later_names ∙ outlines_are (after_all s h) t rise after;
    }

-- ---- the replay of a part that is laid over the other names
-- a name's view as the replay begins, over all the others and over none
module _ (changed : Bool) (old part : Option BlobMetadata) where
  begun : part ≡ cond changed old None → option_map seen_as old ≡ cond changed (option_map seen_as part) (option_map seen_as old)
  begun = by changed
    where
      by : (b : Bool) → part ≡ cond b old None → option_map seen_as old ≡ cond b (option_map seen_as part) (option_map seen_as old)
      by true e = ap (option_map seen_as) (sym e)
      by false e = refl

  alone : part ≡ cond changed old None → option_map seen_as part ≡ cond changed (option_map seen_as part) None
  alone = by changed
    where
      by : (b : Bool) → part ≡ cond b old None → option_map seen_as part ≡ cond b (option_map seen_as part) None
      by true e = refl
      by false e = ap (option_map seen_as) e

-- and after what the replay left is laid over them
laid : (changed : Bool) (done old : Option BlobMetadata) (now : Option View) → option_map seen_as done ≡ cond changed now None
    → option_map seen_as (option_or done (cond changed None old)) ≡ cond changed (option_map seen_as done) (option_map seen_as old)
laid true None old now e = refl
laid true (Some k) old now e = refl
laid false None old now e = refl
laid false (Some k) old now e = absurd (let no : ⊥ = cc in no)

-- so the names then show what the replay of all entries on all names does
pub follows_laid : (w : ℕ) (es : List Entry) (all part done : Replay) (names : BTreeMap (List ℕ) BlobMetadata)
    → ((q : List ℕ) → get name_cmp part.names q ≡ cond (is_changed es q) (get name_cmp all.names q) None) → part.puts ≡ all.puts
    → (AreNoted w (views_of part) (changes_of es) → views_of done ≡ all_next (views_of part) (changes_of es))
    → ((q : List ℕ) → get name_cmp names q ≡ option_or (get name_cmp done.names q) (cond (is_changed es q) None (get name_cmp all.names q)))
    → AreNoted w (views_of all) es → views_of (record { names = names; puts = done.puts; width = w }) ≡ all_next (views_of all) es
follows_laid w es all part done names is_part puts follows is noted =
    let S = is_changed es in
    let cs = changes_of es in
    let v = views_of all in
    let p = views_of part in
    let inside : AreWithin S cs = changes_within S es (λ q t. t) in
    let begins : v ≡ over S v p = λ i. record { names = λ q. begun (S q) (get name_cmp all.names q) (get name_cmp part.names q) (is_part q) i; puts = sym puts i } in
    let only : p ≡ over S empty_views p = λ i. record { names = λ q. alone (S q) (get name_cmp all.names q) (get name_cmp part.names q) (is_part q) i; puts = part.puts } in
    let after : views_of done ≡ all_next p cs = follows (noted_within S w v p cs inside (subst (λ x. AreNoted w x cs) begins (noted-changes w v es noted))) in
    let rest : views_of done ≡ over S empty_views (all_next p cs) = after ∙ ap (λ x. all_next x cs) only ∙ all_next_over S empty_views p cs inside in
    let ends : views_of (record { names = names; puts = done.puts; width = w }) ≡ over S v (views_of done) =
    λ i. record {
      names = λ q. (ap (option_map seen_as) (is q) ∙ laid (S q) (get name_cmp done.names q) (get name_cmp all.names q) ((all_next p cs).names q) (λ j. (rest j).names q)) i;
      puts = done.puts;
    } in
    ends ∙ sym (all_next-changes v es ∙ ap (λ x. all_next x cs) begins ∙ all_next_over S v p cs inside ∙ ap (over S v) (sym after))
