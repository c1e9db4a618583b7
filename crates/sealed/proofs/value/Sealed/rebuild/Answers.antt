use Rattle.std.proofs.Common.{◌≡◌, ℕ, List, Some, length, drop, true, sym, subst, arith}
use Rattle.lrc_code.proofs.Parities.{written_back}
use Rattle.sealed.specs.Rebuilding.{IsPartOf}
use Rattle.sealed.proofs.Decoded.{decoded_part, closed_by, true_if}
use Rattle.sealed.proofs.value.Sealed.rebuild.Goals as goal

pub returns-clause-ok : goal.returns-clause-ok
returns-clause-ok c =
    let zeros : List ℕ = c.in_ok-bytes.bytes.items in
    let new : List ℕ = c.rebuild_to.new.target in
    let long : length new ≡ c.in_ok-bytes.bytes.len = omega (arith, c.rebuild_to.auto.target, c.deref_mut.ensures.len) in
    let closed = closed_by c.args.self.now c.args.stripe c.requires.lost.has.0 c.left_of-left.result.code c.left_of-left.ensures.code c.left_of-left.result.fragments c.left_of-left.ensures.slots (Some c.args.f) c.requires.lost in
    let done : c.rebuild_to.result ≡ true = true_if c.rebuild_to.result (λ e. closed (c.rebuild_to.ensures.open.0 e)) in
    subst (IsPartOf c.args.self.now c.args.stripe c.args.f c.args.from c.args.to) (sym (written_back c.in_ok-bytes.bytes.len new (drop (length new) zeros) long))
    (decoded_part c.args.self.now c.args.stripe c.requires.lost.has.0 c.left_of-left.result.code c.left_of-left.ensures.code c.left_of-left.result.fragments c.left_of-left.ensures.slots c.args.f c.args.from c.args.to new c.requires.range.1 (c.rebuild_to.ensures.ok done))
