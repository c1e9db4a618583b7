-- What remains of a blob and of a state without bytes. It determines the replies.
use Rattle.std.specs.Prelude.{ℕ, ◌+◌, ◌*◌, Bool, ◌&&◌, List, map, nat_le, nat_lt, IfSome}
use Rattle.std.specs.Option.{option_map}
use Rattle.std.specs.Map.{lookup}
use Rattle.std.specs.BTreeMap.{BTreeMap, get, is_at}
use Rattle.std.specs.BTreeSet as tree
use Rattle.lrc_code.specs.Code.{data_count}
use Rattle.sealed.specs.Blob.{pair_cmp}
use Rattle.history.specs.Names.{name_cmp}
use Rattle.history.specs.Views.{View, Views, open_test}
use Rattle.history.specs.Base.{Outline}
use Rattle.history.specs.declared.metadata.BlobMetadata.{BlobMetadata}
use Rattle.history.specs.declared.replay.Replay.{Replay}

abbrev pub lost_of : BlobMetadata → ℕ → ℕ → Bool
lost_of k j f = tree.contains pair_cmp k.lost (j, f)

-- what the replies depend on
abbrev pub seen_as : BlobMetadata → View
seen_as k = record { version = k.version; len = k.len; code = k.code; lost = lost_of k; count = tree.btree_set_len k.lost }

-- the pair is an unrecoverable data fragment, numbered from first to last in the blob
abbrev pub is_open_between : BlobMetadata → ℕ → ℕ → ℕ × ℕ → Bool
is_open_between k first last pair =
    nat_lt pair.1 (data_count k.code)
    && (nat_le first (data_count k.code * pair.0 + pair.1) && nat_le (data_count k.code * pair.0 + pair.1) last)
    && open_test k.code (lost_of k pair.0) pair.1

abbrev pub views_of : Replay → Views
views_of r = record { names = λ n. option_map seen_as (lookup (is_at (name_cmp n)) r.names.entries); puts = r.puts }

-- the outline of a name with its blob's metadata
abbrev pub outline_kept : List ℕ × BlobMetadata → Outline
outline_kept e = record { name = e.0; version = e.1.version; len = e.1.len; code = e.1.code; lost = e.1.lost.keys }

abbrev pub outlines_of : Replay → List Outline
outlines_of r = map outline_kept r.names.entries

-- the lost pairs of each name's blob are sorted
abbrev pub PairsRise : BTreeMap (List ℕ) BlobMetadata → Type 0
PairsRise names = (q : List ℕ) → IfSome (get name_cmp names q) (λ k. tree.IsOrdered pair_cmp k.lost)
