use Rattle.std.proofs.Common.{◌≡◌, ℕ, List, Some, ap, ◌∙◌, subst, cond}
use Rattle.std.specs.Map.{lookup}
use Rattle.std.specs.BTreeMap.{get, is_at}
use Rattle.history.specs.Names.{name_cmp}
use Rattle.history.specs.declared.metadata.BlobMetadata.{BlobMetadata}
use Rattle.history.proofs.Replaying.{shown, fresh, fresh_of, rise_with}
use Rattle.history.proofs.replay.Replay.apply_put.Goals as goal

pub returns-clause-views : goal.returns-clause-views
returns-clause-views c =
    let kept : BlobMetadata = record { version = c.args.version; len = c.args.len; code = c.args.code; lost = c.new.result } in
    let old : List (List ℕ × BlobMetadata) = c.args.self.now.names.entries in
    let new : List (List ℕ × BlobMetadata) = c.insert.new.self.entries in
    λ i. record {
      names = λ q. shown old new c.args.name.now kept _
          (subst (λ (n : List ℕ). (q : List ℕ) → lookup (is_at (name_cmp q)) new ≡ cond (is_at (name_cmp n) q) (Some kept) (lookup (is_at (name_cmp q)) old)) c.duplicate.ensures c.in-Ok.ensures.updates.0) (fresh kept c.new.ensures.empty ∙ ap (λ (v : ℕ). record (fresh_of kept) { version = v }) c.requires) q i;
      puts = c.requires i;
    }

pub returns-clause-rising : goal.returns-clause-rising
returns-clause-rising c =
    let kept : BlobMetadata = record { version = c.args.version; len = c.args.len; code = c.args.code; lost = c.new.result } in
    let old = c.args.self.now.names in
    let new = c.insert.new.self in
    rise_with old new c.args.name.now kept
    (subst (λ (n : List ℕ). (q : List ℕ) → get name_cmp new q ≡ cond (is_at (name_cmp n) q) (Some kept) (get name_cmp old q)) c.duplicate.ensures c.in-Ok.ensures.updates.0) c.new.ensures.ordered
