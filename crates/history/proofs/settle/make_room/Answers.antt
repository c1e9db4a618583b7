use Rattle.std.proofs.Common.{◌≡◌, ℕ, List, Some, None, cond, false, ap, ◌∙◌, subst}
use Rattle.std.specs.Map.{lookup}
use Rattle.std.specs.BTreeMap.{get, is_at}
use Rattle.std.specs.Cmp.Lexicographic.{nat_list_cmp_total}
use Rattle.std.proofs.lemmas.Map.Lookups.{exact_bytes}
use Rattle.lrc_code.specs.declared.Code.TheVariants.{Wide}
use Rattle.history.specs.Names.{name_cmp}
use Rattle.history.specs.Parts.{has_name}
use Rattle.history.specs.declared.metadata.BlobMetadata.{BlobMetadata}
use Rattle.history.proofs.Rising.{same_found}
use Rattle.history.proofs.Settling.{inside_is, room_more, room_kept, back}
use Rattle.history.proofs.settle.make_room.Goals as goal

pub loop-name-preserved : goal.loop-name-preserved
loop-name-preserved c =
    let n = c.name-item.result in
    let was = c.loop-name.names in
    let new = c.insert.new.self in
    let k : BlobMetadata = record { version = 0; len = 0; code = Wide; lost = c.new.result } in
    let step = λ (q : List ℕ). subst (λ (m : List ℕ). get name_cmp new q ≡ cond (is_at (name_cmp m) q) (Some k) (get name_cmp was q)) c.duplicate.ensures (c.in-Ok.ensures.updates.0 q) in
    record {
      others = λ q h. step q ∙ ap (λ b. cond b (Some k) (get name_cmp was q)) (inside_is _ c.loop-name.name-index n q c.loop-name-test.true c.name-item.is h) ∙ c.loop-name.invariant.others q h;
      kept = λ q h. room_kept (is_at (name_cmp n) q) k _ _ (step q) (c.loop-name.invariant.kept q h);
      placed = λ q. room_more _ c.loop-name.name-index n q k _ _ c.loop-name-test.true c.name-item.is (step q) (c.loop-name.invariant.placed q);
      ordered = c.insert.ensures.ordered;
    }

pub returns-in_default-clause-err : goal.returns-in_default-clause-err
returns-in_default-clause-err c =
    let old = c.args.names.now in
    let was = c.insert.new.self in
    let new = c.withdraw.new.names in
    let fresh = c.in_ok-fresh.fresh.items in
    let same : was.entries ≡ c.loop-name.names.entries = c.in_default.ensures.err in
    let others = λ (q : List ℕ) (f : has_name fresh q ≡ false).
    ap (λ (es : List (List ℕ × BlobMetadata)). lookup (is_at (name_cmp q)) es) same ∙ c.loop-name.invariant.others q (ap (λ l. has_name l q) c.deref-name-items.ensures.value ∙ f) in
    let found = λ (q : List ℕ). back (has_name fresh q) (get name_cmp c.args.part.now q) (get name_cmp old q) (get name_cmp was q) (get name_cmp new q) (c.in_ok-fresh.ensures q) (others q)
    (c.withdraw.ensures.names q ∙ ap (λ l. cond (has_name l q) None (get name_cmp was q)) c.deref.ensures.value) in
    let entries : new.entries ≡ old.entries = same_found nat_list_cmp_total exact_bytes new.entries old.entries (c.withdraw.ensures.ordered c.insert.ensures.ordered) c.requires found in
    entries
