use Rattle.std.proofs.Common.{ℕ, subst}
use Rattle.std.specs.Prelude.{IsTrue, ◌↔◌}
use Rattle.std.proofs.lemmas.Result.{IfOk-weaker}
use Rattle.history.specs.Metadata.{views_of}
use Rattle.history.specs.Views.{AreNoted}
use Rattle.history.specs.Lawful.{IsLawfulFrom}
use Rattle.history.proofs.Shapes.{lawful_kept}
use Rattle.history.proofs.lawful.is_lawful_from.Goals as goal

pub returns : goal.returns
returns c =
    let w = c.args.width in
    let es = c.args.entries.now in
    let r = c.in_ok-from_base.field-0 in
    let kept = c.in_ok-from_base.ensures in
    let is = lawful_kept w c.args.base.now r kept.names kept.rising kept.puts es in
    IfOk-weaker c.follow.result _ (λ t. IsTrue t ↔ IsLawfulFrom c.args.base.now w es)
    (λ t followed.
    let noted = subst (λ (x : ℕ). IsTrue t ↔ AreNoted x (views_of r) es) kept.width followed in
    (λ p. is.1 (noted.0 p), λ l. noted.1 (is.0 l)))
    c.follow.ensures.variant
