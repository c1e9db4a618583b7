use Rattle.std.proofs.Common.{◌≡◌, ◌≤◌, ap, sym, subst, ◌∙◌, ◌+◌, ◌∷◌, arith, length, cond, Some}
use Rattle.std.specs.BTreeMap.{is_at}
use Rattle.history.specs.Names.{name_cmp}
use Rattle.std.specs.Prelude.{count_by}
use Rattle.std.proofs.lemmas.List.Sums.{count_by-le-length}
use Rattle.sealed.specs.declared.value.Sealed.{Sealed}
use Rattle.sealed.specs.Blob.{nothing}
use Rattle.sealed.specs.Sealed.{StandsFor}
use Rattle.history.specs.History.{is_put}
use Rattle.history.specs.Base.{Checkpoint}
use Rattle.book.specs.Contents.{Contents, sealed_at}
use Rattle.book.proofs.Storing.{carries_put}
use Rattle.book.specs.BlobBytes.{blob_bytes}
use Rattle.book.proofs.book.Book.put.Goals as goal

pub overflow_add-version : goal.overflow_add-version
overflow_add-version c =
    let few : count_by is_put c.self.inside.log.entries ≤ length c.self.inside.log.entries = count_by-le-length is_put c.self.inside.log.entries in
    let entries : c.self.inside.log.entries ≡ c.args.self.now.entries = ap (λ (s : Contents). s.entries) c.self.view_is in
    omega (arith, c.self.invariant, few, ap length entries, c.is_full.ensures.few, c.is_full.ensures.small)

pub insert-requires : goal.insert-requires
insert-requires c =
    let stands = c.requires.stands in (
      stands.0,
      subst (λ (s : Sealed). StandsFor s stands.0 nothing) (sym (c.in-Ok.ensures.ok ∙ c.with_version.ensures))
          (record { bytes = stands.1.bytes; length_is = stands.1.length_is; fragments = stands.1.fragments }),
    )

pub returns-clause-ok : goal.returns-clause-ok
returns-clause-ok c b stands =
    let entries : c.self.inside.log.entries ≡ c.args.self.now.entries = ap (λ (s : Contents). s.entries) c.self.view_is in
    let counted : count_by is_put c.self.inside.log.entries ≡ count_by is_put c.args.self.now.entries = ap (count_by is_put) entries in
    let base : c.self.inside.base ≡ c.args.self.now.base = ap (λ (s : Contents). s.base) c.self.view_is in
    let puts : c.self.inside.base.puts ≡ c.args.self.now.base.puts = ap (λ (b : Checkpoint). b.puts) base in
    rw c.note_call.ensures.answer (
    carries_put c.args.self.now _ c.args.who c.args.name c.args.sealed b (c.self.inside.puts + 1) c.requires.width stands
    (omega (arith, c.self.invariant.0))
    (ap (λ (s : Contents). s.width) c.self.view_is)
    base
    (cc)
    (λ q. c.in_ok-insert.ensures.ok q ∙ (λ i. cond (is_at (name_cmp c.args.name) q) (Some ((c.in-Ok.ensures.ok ∙ c.with_version.ensures) i)) (sealed_at (c.self.view_is i) q)))
    (c.with-truth.ensures ∙ ap (λ (s : Contents). (c.args.name, blob_bytes c.args.sealed) ∷ s.truth) c.self.view_is))
