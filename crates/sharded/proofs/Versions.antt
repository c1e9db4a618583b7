-- What a snapshot at the shard of its name holds.
use Rattle.std.proofs.Common.{◌≡◌, List, ℕ, length, Option, Some, Result, IfOk, IfNone, slice_get, ap, sym, subst, ◌∙◌}
use Rattle.std.proofs.lemmas.Option.{slice_get_within}
use Rattle.std.proofs.lemmas.List.{length-set}
use Rattle.sealed.specs.declared.fault.Fault.{Fault}
use Rattle.sealed.specs.declared.value.Sealed.{Sealed}
use Rattle.history.specs.Step.{read}
use Rattle.history.specs.History.{History}
use Rattle.book.specs.declared.answer.Answer.{Answer}
use Rattle.one_map.specs.Hash.{shard_of}
use Rattle.shared.specs.Passes.{Shows}
use Rattle.shared.specs.Snapshots.{version_held_by, HasNoBlob}
use Rattle.shared.proofs.Snapshots.{has_no_blob}
use Rattle.sharded.specs.Steps.{IsStepAt, IsCallAt, seen_at, seen_for}
use Rattle.sharded.proofs.Steps.{set_here}
use Rattle.sharded.proofs.Requests.{seen_named}

-- what the pass to the shard of a name has seen after a step there
pub seen_after : {P : Shows → Shows → Type 0} (vs ws : List Shows) (n : List ℕ) (at : IsStepAt (shard_of (length vs) n) P vs ws) → seen_for ws n ≡ at.new.seen
seen_after vs ws n at =
    let k = shard_of (length vs) n in
    let long : length ws ≡ length vs = ap length at.only ∙ length-set vs k at.new in
    let here : slice_get ws k ≡ Some at.new = ap (λ l. slice_get l k) at.only ∙ set_here vs k at.new (slice_get_within vs k at.old at.there) in
    ap (λ (m : ℕ). seen_at ws (shard_of m n)) long ∙ seen_named ws k at.new here

-- without a snapshot the name has no blob
pub has_no_blob_at : (r : Result Answer Fault) (result : Result (Option Sealed) Fault) (vs ws : List Shows) (n : List ℕ) → result ≡ version_held_by r → IsCallAt vs (read n 0 0) r ws → IfOk result (λ found. IfNone found (HasNoBlob (seen_for ws n) n))
has_no_blob_at r result vs ws n held at =
    subst (λ (h : History). IfOk result (λ found. IfNone found (HasNoBlob h n))) (sym (seen_after vs ws n at)) (has_no_blob r result at.old at.new n held at.does)
