-- The books of a store that is closed.
use Rattle.std.specs.Prelude.{◌≡◌, ◌+◌, List, [], ◌∷◌, length}
use Rattle.book.specs.Contents.{Contents}
use Rattle.book.specs.Holds.{HoldsHistory}
use Rattle.shared.specs.Passes.{Shows, IsConsistent, IsWhole}

-- The book represents what its pass has seen. Each call and each trim in it was made by this pass
-- or by one that it joined
pub record IsClosed (v : Shows) (book : Contents) : Type 0 where
  pub holds : HoldsHistory book v.seen
  pub whole : IsWhole v
  pub calls : length v.made ≡ length v.seen
  pub acts : length v.did ≡ length v.acts
  pub trimmed : book.base.trimmed ≡ v.trimmed
  pub entries : book.base.trimmed + length book.entries ≡ length v.made
  pub agrees : IsConsistent v
  pub width : book.width ≡ v.store.width
  pub limit : book.limit ≡ v.store.limit

-- one book for each shard, in the order of the shards
abbrev pub AreClosed : List Shows → List Contents → Type 0
AreClosed [] [] = Unit {0}
AreClosed (v ∷ vs) (book ∷ books) = IsClosed v book × AreClosed vs books
AreClosed vs books = ⊥
