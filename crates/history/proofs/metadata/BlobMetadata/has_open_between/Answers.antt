use Rattle.std.proofs.Common.{◌≡◌, ℕ, ◌/◌, refl, ap, ◌∙◌, rules}
use Rattle.std.specs.List.{list_any}
use Rattle.std.specs.BTreeSet.{keys_between}
use Rattle.std.specs.declared.ops.Bound.TheVariants.{Included}
use Rattle.std.proofs.lemmas.Iterator.Consumers.{YieldsList-from_rest}
use Rattle.std.proofs.lemmas.Iterator.Search.{any_from_yields_List}
use Rattle.lrc_code.specs.Code.{data_count}
use Rattle.sealed.specs.Blob.{pair_cmp}
use Rattle.history.specs.Metadata.{is_open_between}
use Rattle.history.proofs.Keeping.{any_in_stripes}
use Rattle.history.proofs.metadata.BlobMetadata.has_open_between.Goals as goal

pub returns : goal.returns
returns c =
    let k = c.args.self.now in
    let test = is_open_between k c.args.first c.args.last in
    let count : c.from-count.result ≡ data_count k.code = c.from-count.ensures ∙ c.data_fragments.ensures in
    let low = c.new.ensures.start ∙ ap (λ (n : ℕ). (c.args.first / n, 0)) count in
    let high = c.new.ensures.end ∙ ap (λ (n : ℕ). (c.args.last / n, 255)) count in
    let found : c.any.result ≡ list_any test c.range.result =
    any_from_yields_List test _ _ c.any.result c.any.ensures.ran (YieldsList-from_rest c.range.result refl) (λ x b q called. search rules) in
    found
    ∙ ap (list_any test) (c.range.ensures.between c.new.ensures.exhausted)
    ∙ (λ i. list_any test (keys_between pair_cmp (Included (low i)) (Included (high i)) k.lost))
    ∙ any_in_stripes k c.args.first c.args.last
