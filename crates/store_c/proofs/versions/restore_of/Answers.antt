use Rattle.std.proofs.Common.{rules, ◌≡◌, Option, Some, refl, sym, ap, subst}
use Rattle.session.specs.declared.held.Held.{Held}
use Rattle.session.specs.declared.held.Held.TheVariants.{Session, Version}
use Rattle.store_c.specs.Restore.{IsRestoreCall}
use Rattle.store_c.proofs.versions.restore_of.Goals as goal

pub returns-in-Version : goal.returns-in-Version
returns-in-Version c =
    let restoration = c.restore in
    let theirs = c.in-Version.theirs in
    let given_is : c.args.given.now ≡ Some (Version c.in-Version.version theirs) = search rules in
    subst (λ (other : Option Held). IsRestoreCall (Some (Session c.args.session.now c.args.number)) other c.args.stripe c.args.fragment c.args.bytes.now restoration.result (c.args.written.now, restoration.new.written) (Some (Session restoration.new.session c.args.number)) (Some (Version restoration.new.version theirs)))
    (sym given_is) (restoration.ensures.call, refl, ap (λ y. Some (Version y theirs)) restoration.ensures.unchanged)
