use Rattle.std.proofs.Common.{◌≡◌, ℕ, ◌+◌, ◌-◌, ◌/◌, ◌≤◌, ap, ◌∙◌, arith}
use Rattle.std.specs.List.{list_any}
use Rattle.history.specs.Metadata.{is_open_between}
use Rattle.history.proofs.Keeping.{open_between}
use Rattle.history.proofs.metadata.BlobMetadata.has_open.Goals as goal

pub returns : goal.returns
returns c =
    let same : c.from-width.result ≡ c.args.width = c.from-width.ensures ∙ c.get.ensures.value in
    let some : 1 ≤ c.args.width = omega (arith, c.get.ensures.value, c.get.ensures.range) in
    let start = c.args.start in
    let end = c.args.start + c.args.len - 1 in
    c.has_open_between.ensures
    ∙ ap (λ (v : ℕ). list_any (is_open_between c.args.self.now (start / v) (end / v)) c.args.self.now.lost.keys) same
    ∙ open_between c.args.self.now c.args.width start c.args.len some (omega (arith, c.if-len-eq0.false))
