use Rattle.std.proofs.Common.{◌≡◌, inl, inr, ℕ, Ok, refl, ap, ◌∙◌, arith, rules}
use Rattle.sealed.specs.declared.value.Sealed.{Sealed}
use Rattle.store_c.proofs.Gets.{got_by, refused_by}
use Rattle.store_c.proofs.whole.get.Goals as goal

pub returns-then-status-eq-NO_MEMORY : goal.returns-then-status-eq-NO_MEMORY
returns-then-status-eq-NO_MEMORY c =
    let x = c.in-Ok-Some.held in
    let version_is : c.version.result ≡ x.sealed.version = c.version.ensures ∙ ap (λ (s : Sealed). s.version) c.snapshot-in-Ok-Some.ensures.same in
    let len_is : c.len-whole.result ≡ x.sealed.len = c.len-whole.ensures ∙ ap (λ (s : Sealed). s.len) c.snapshot.ensures.same in
    let before : ℕ × ℕ × ℕ = (c.args.version.now, c.args.len.now, c.args.pieces.now) in
    let after : ℕ × ℕ × ℕ = (c.version.result, c.len-whole.result, c.lend-status.new.pieces) in
    got_by c.args.session.now c.hold.new.self c.in-Some.name c.args.name.now c.hold.result x c.lend-status.result 18 c.len-whole.result before after c.lend-status.new.other.held (inl (search rules, refl))
    (c.in-Ok-Some.is ∙ ap Ok c.in-Ok-Some.field-0-is) c.in-Some.ensures.0 c.in-Some.ensures.1 c.hold.ensures.called c.hold.ensures.held len_is c.lend-status.ensures
    (λ i. (version_is i, len_is i, c.lend-status.new.pieces))

pub returns-in-Ok-Some : goal.returns-in-Ok-Some
returns-in-Ok-Some c =
    let x = c.in-Ok-Some.held in
    let version_is : c.version.result ≡ x.sealed.version = c.version.ensures ∙ ap (λ (s : Sealed). s.version) c.snapshot-in-Ok-Some.ensures.same in
    let len_is : c.len-whole.result ≡ x.sealed.len = c.len-whole.ensures ∙ ap (λ (s : Sealed). s.len) c.snapshot.ensures.same in
    let before : ℕ × ℕ × ℕ = (c.args.version.now, c.args.len.now, c.args.pieces.now) in
    let after : ℕ × ℕ × ℕ = (c.version.result, c.len-whole.result, c.lend-status.new.pieces) in
    got_by c.args.session.now c.hold.new.self c.in-Some.name c.args.name.now c.hold.result x c.lend-status.result c.lend-status.result c.len-whole.result before after c.lend-status.new.other.held (inr ((λ e. let other = c.if-status-eq-NO_MEMORY.false in omega (arith, e, other)), refl))
    (c.in-Ok-Some.is ∙ ap Ok c.in-Ok-Some.field-0-is) c.in-Some.ensures.0 c.in-Some.ensures.1 c.hold.ensures.called c.hold.ensures.held len_is c.lend-status.ensures
    (λ i. (version_is i, len_is i, c.lend-status.new.pieces))

pub returns : goal.returns
returns c =
    let before : ℕ × ℕ × ℕ = (c.args.version.now, c.args.len.now, c.args.pieces.now) in
    refused_by c.args.session.now c.hold.new.self c.in-Some.name c.args.name.now c.hold.result c.in-Err.fault c.number_of.result before before c.args.other.now.held
    c.in-Err.is c.in-Some.ensures.0 c.in-Some.ensures.1 c.number_of.ensures c.in-Err.ensures.faults c.hold.ensures.called c.hold.ensures.no_memory c.hold.ensures.busy c.hold.ensures.lone refl c.requires
