-- What a reader finds in a page.
use Rattle.std.proofs.Common.{◌≡◌, ◌<◌, ◌≤◌, ◌^◌, ℕ, Option, Some, None, subst, ◌++◌, ◌∷◌, [], List, length, take, drop, refl, sym, ap, ◌∙◌, append_assoc, arith}
use Rattle.std.specs.Prelude.{slice_index, slice_range, MatchOption, ◌≢◌}
use Rattle.std.specs.Int.{w32, w64, from_le_bytes}
use Rattle.std.proofs.lemmas.Nat.{from_le_bytes-to_le_bytes_4, from_le_bytes-to_le_bytes_8}
use Rattle.std.proofs.lemmas.List.{take_at, drop_at}
use Rattle.sha2.specs.Sha256.{sha256}
use Rattle.lrc_code.specs.declared.Code.{Code}
use Rattle.lrc_code.specs.declared.Code.TheVariants.{Wide, Small}
use Rattle.lrc_code.specs.Code.{data_count}
use Rattle.fragment_header.specs.declared.header.Header.{Header}
use Rattle.fragment_header.specs.Page.{padding, signed_bytes, page_of}
use Rattle.fragment_header.specs.Fields.{HasArrays, IsMadeOf, IsSame}

-- the fields, where they stand
pub record ReadsAs (bs : List ℕ) (h : Header) : Type 0 where
  pub code_at : slice_index bs 12 ≡ data_count h.code
  pub fragment_at : slice_index bs 13 ≡ h.fragment
  pub width_at : from_le_bytes w32 (slice_index bs 16 ∷ slice_index bs 17 ∷ slice_index bs 18 ∷ slice_index bs 19 ∷ []) ≡ h.width
  pub len_at : from_le_bytes w64 (slice_index bs 24 ∷ slice_index bs 25 ∷ slice_index bs 26 ∷ slice_index bs 27 ∷ slice_index bs 28 ∷ slice_index bs 29 ∷ slice_index bs 30 ∷ slice_index bs 31 ∷ []) ≡ h.len
  pub set_at : slice_range bs 32 48 ≡ h.set
  pub digests_at : slice_range bs 48 560 ≡ h.digests

front : (a b c d : List ℕ) → length a ≡ 16 → take 16 (((a ++ b) ++ c) ++ d) ≡ a
front a b c d e = simp append_assoc (take_at a (b ++ (c ++ d)) 16 e)

middle : (a b c d : List ℕ) → length a ≡ 16 → length b ≡ 512 → take 512 (drop 16 (((a ++ b) ++ c) ++ d)) ≡ b
middle a b c d e f = simp append_assoc (ap (take 512) (drop_at a (b ++ (c ++ d)) 16 e) ∙ take_at b (c ++ d) 512 f)

pub reads_as : (h : Header) → HasArrays h → ReadsAs (page_of h) h
unfolding page_of
reads_as h a = record {
  code_at = refl;
  fragment_at = refl;
  width_at = from_le_bytes-to_le_bytes_4 h.width (omega (arith, h.not_wide));
  len_at = from_le_bytes-to_le_bytes_8 h.len (omega (arith, h.not_long));
  set_at = front h.set h.digests padding (sha256 (signed_bytes h)) a.set;
  digests_at = middle h.set h.digests padding (sha256 (signed_bytes h)) a.set a.digests;
}

-- a code is known by the number of its data fragments
pub same_code : (c d : Code) → data_count c ≡ data_count d → c ≡ d
same_code Wide Wide e = refl
same_code Wide Small e = absurd (omega (arith, e))
same_code Small Wide e = absurd (omega (arith, e))
same_code Small Small e = refl

pub page_is : (h : Header) (xs : List ℕ) → xs ≡ signed_bytes h → xs ++ sha256 xs ≡ page_of h
unfolding page_of
page_is h xs e = ap (λ u. u ++ sha256 u) e

-- headers with the same fields have one page
pub same_page : (g h : Header) → IsSame g h → page_of g ≡ page_of h
unfolding page_of
same_page g h s = cc (s.code_is, s.fragment_is, s.width_is, s.len_is, s.set_is, s.digests_is)

-- the header that is made of the fields where they stand is the only one whose page this can be
pub found_is : (bs : List ℕ) (code : Code) (r : Option Header) (width len : ℕ) (set digests : List ℕ) → data_count code ≡ slice_index bs 12
    → width ≡ from_le_bytes w32 (slice_index bs 16 ∷ slice_index bs 17 ∷ slice_index bs 18 ∷ slice_index bs 19 ∷ [])
    → len ≡ from_le_bytes w64 (slice_index bs 24 ∷ slice_index bs 25 ∷ slice_index bs 26 ∷ slice_index bs 27 ∷ slice_index bs 28 ∷ slice_index bs 29 ∷ slice_index bs 30 ∷ slice_index bs 31 ∷ [])
    → set ≡ slice_range bs 32 48 → digests ≡ slice_range bs 48 560
    → MatchOption r ((h : Header) → IsMadeOf h code (slice_index bs 13) width len set digests → ⊥) (λ h. IsMadeOf h code (slice_index bs 13) width len set digests)
    → MatchOption r ((h : Header) → HasArrays h → bs ≢ page_of h) (λ found. (h : Header) → HasArrays h → bs ≡ page_of h → IsSame found h)
found_is bs code None width len set digests ec ew el es ed m = λ h a e.
    let r : ReadsAs bs h = subst (λ x. ReadsAs x h) (sym e) (reads_as h a) in
    m h (record {
      code_is = same_code h.code code (sym r.code_at ∙ sym ec);
      fragment_is = sym r.fragment_at;
      width_is = sym r.width_at ∙ sym ew;
      len_is = sym r.len_at ∙ sym el;
      set_is = sym r.set_at ∙ sym es;
      digests_is = sym r.digests_at ∙ sym ed;
    })
found_is bs code (Some g) width len set digests ec ew el es ed m = λ h a e.
    let r : ReadsAs bs h = subst (λ x. ReadsAs x h) (sym e) (reads_as h a) in
    record {
      code_is = m.code_is ∙ same_code code h.code (ec ∙ r.code_at);
      fragment_is = m.fragment_is ∙ r.fragment_at;
      width_is = m.width_is ∙ ew ∙ r.width_at;
      len_is = m.len_is ∙ el ∙ r.len_at;
      set_is = m.set_is ∙ es ∙ r.set_at;
      digests_is = m.digests_is ∙ ed ∙ r.digests_at;
    }

-- and a page has the number of a code's data fragments
pub no_code : (bs : List ℕ) → ((code : Code) → data_count code ≢ slice_index bs 12) → (h : Header) → HasArrays h → bs ≡ page_of h → ⊥
no_code bs none h a e =
    let r : ReadsAs bs h = subst (λ x. ReadsAs x h) (sym e) (reads_as h a) in
    none h.code (sym r.code_at)
