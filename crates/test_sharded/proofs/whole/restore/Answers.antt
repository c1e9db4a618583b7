use Rattle.std.proofs.Common.{◌≡◌, ◌∙◌, ℕ, List, [], IfSome, append-nil, refl, sym, subst}
use Rattle.std.specs.Option.{IsSome}
use Rattle.sealed.specs.Rebuilding.{IsRebuildable, IsFragmentOf}
use Rattle.book.specs.Known.{IsFragmentIn}
use Rattle.shared.specs.Snapshots.{HasFragmentsOf}
use Rattle.sharded.specs.Steps.{seen_for, width_for}
use Rattle.test_sharded.proofs.whole.restore.Goals as goal

pub restore-requires-clause-known : goal.restore-requires-clause-known
restore-requires-clause-known g c =
    let s = c.in-Some.snapshot in
    let name : c.duplicate.result ≡ c.duplicate-2.result = c.duplicate.ensures ∙ sym c.duplicate-2.ensures in
    let known : HasFragmentsOf (seen_for c.snapshot.new.pass.shards c.duplicate.result) (width_for c.args.store.now.shards c.duplicate.result) c.duplicate.result s =
    subst (λ o. IfSome o (HasFragmentsOf (seen_for c.snapshot.new.pass.shards c.duplicate.result) (width_for c.args.store.now.shards c.duplicate.result) c.duplicate.result)) c.in-Some.is c.in_ok-snapshot.ensures.known in
    let bytes : IsFragmentOf s 0 3 c.in-Some-found.bytes = subst (λ o. IfSome o (IsFragmentOf s 0 3)) c.in-Some-found.is c.in-Ok.ensures.bytes in
    let can : IsRebuildable s 0 3 = c.in-Ok.ensures.variant.0 (subst IsSome (sym c.in-Some-found.is) refl) in
    subst (λ (u : List ℕ × ℕ). IsFragmentIn (seen_for c.snapshot.new.pass.shards u.0) (width_for c.args.store.now.shards u.0) u.0 u.1 0 3 c.in-Some-found.bytes) (λ i. (name i, sym c.version-version.ensures i))
    (known (seen_for c.snapshot.new.pass.shards c.duplicate.result) 0 3 c.in-Some-found.bytes ([], append-nil (seen_for c.snapshot.new.pass.shards c.duplicate.result)) can.has bytes)
