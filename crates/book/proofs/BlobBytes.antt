-- The bytes that are read out of a sealed blob with nothing lost.
use Rattle.std.proofs.Common.{◌≡◌, ℕ, ◌<◌, ◌≤◌, List, None, Some, cond, sym, ap, ◌∙◌, arith}
use Rattle.std.specs.Prelude.{slice_index}
use Rattle.std.specs.FinSet as set
use Rattle.std.proofs.lemmas.List.FromFn.{get_or-map-range_with_len, fill_by_all}
use Rattle.lrc_code.specs.Column.{column}
use Rattle.lrc_code.proofs.Columns.{column_data, count_with_parities}
use Rattle.sealed.specs.declared.value.Sealed.{Sealed}
use Rattle.sealed.specs.Layout.{stripe_of, fragment_of, place_of}
use Rattle.sealed.specs.Stripes.{fragment_at}
use Rattle.sealed.specs.Blob.{data_at, fragment, nothing, pair_cmp}
use Rattle.sealed.specs.Sealed.{StandsFor}
use Rattle.sealed.proofs.Places.{stripe_inside, fragment_inside, place_inside, byte_back}
use Rattle.book.specs.BlobBytes.{bytes_left, blob_byte, blob_bytes}

byte_is : (s : Sealed) (b : List ℕ) → StandsFor s b nothing → (i : ℕ) → i < s.len → blob_byte s i ≡ slice_index b i
byte_is s b stands i below =
    let w : ℕ = s.width in
    let some : 1 ≤ w = s.shaped.wide in
    let j : ℕ = stripe_of s.code w i in
    let f : ℕ = fragment_of s.code w i in
    let p : ℕ = place_of w i in
    let inside = fragment_inside s.code w some i in
    let there : fragment_at s.stripes j f ≡ Some (fragment s.code w b j f) =
    stands.fragments j f (stripe_inside s.code w some i s.len below) (omega (arith, inside, count_with_parities s.code))
    ∙ ap (λ lost. cond lost None (Some (fragment s.code w b j f))) (set.contains-empty pair_cmp (j, f)) in
    ap (λ x. slice_index (bytes_left x) p) there
    ∙ get_or-map-range_with_len (λ q. column s.code (data_at s.code w b j q) f) 0 w p p 0 (place_inside s.code w some i) (omega arith)
    ∙ column_data s.code (data_at s.code w b j p) f inside
    ∙ ap (slice_index b) (byte_back s.code w some i)

-- they are the bytes for which it stands
pub bytes_are : (s : Sealed) (b : List ℕ) → StandsFor s b nothing → blob_bytes s ≡ b
bytes_are s b stands = sym (fill_by_all (blob_byte s) b s.len 0 (sym stands.length_is) (λ i h. sym (byte_is s b stands i h)))
