use Rattle.std.proofs.Common.{◌≡◌, ◌<◌, ◌^◌, length, sym, ap, subst, rules, arith}
use Rattle.std.proofs.lemmas.Grind.{common_steps}
use Rattle.sealed.specs.declared.value.Sealed.{Sealed}
use Rattle.sealed.specs.Sealed.{StandsFor}
use Rattle.lent.specs.declared.grant.Grant.{Grant}
use Rattle.session.proofs.runs.run_at.Goals as goal

pub overflow_add-grant : goal.overflow_add-grant
overflow_add-grant c =
    let g : Grant = c.args.grant.now in
    let in_range : c.deref-sealed.result.now.len < 2 ^ 64 = search rules in
    let same : c.deref-sealed.result.now.len ≡ g.sealed.value.len = ap (λ (t : Sealed). t.len) c.deref-sealed.ensures in
    record { fits = omega (arith, c.requires.inside, g.inside, in_range, same) }

pub returns : goal.returns
returns c =
    let g : Grant = c.args.grant.now in
    let any : 0 < length c.run-run.result.now = grind (arith, common_steps, c.is_empty.ensures, c.if-is_empty.false) in
    record {
      run = record {
        some = any;
        inside = omega (arith, c.run-run.ensures.few, c.requires.inside);
        bytes_are = λ b lost stands. c.run-run.ensures.bytes b lost (subst (λ (t : Sealed). StandsFor t b lost) (sym c.deref-sealed.ensures) stands);
      };
    }
