-- The root of a pool forgets nothing, and hands what it has seen to each use that begins.
use Rattle.std.proofs.Common.{◌≡◌, ◌⊎◌, ⊎_elim, ℕ, List, [], ◌∷◌, ◌++◌, sym, ap, ◌∙◌, append-nil}
use Rattle.gate.proofs.Lists.{prefix_trans}
use Rattle.shared.specs.Passes.{Shows, seen_by}
use Rattle.session.specs.FreshSession.{IsSplitOff}
use Rattle.session.specs.Learns.{Learns}
use Rattle.pool_order.specs.PoolTurn.{PoolTurn, give, take, HasSeenAllOf, IsReminded, IsMade, IsTurn, AreTurns}

seen_trans : (x y z : Shows) → HasSeenAllOf y x → HasSeenAllOf z y → HasSeenAllOf z x
seen_trans x y z a b = (prefix_trans x.seen y.seen z.seen a.0 b.0, prefix_trans x.acts y.acts z.acts a.1 b.1)

seen_if_same : (x y : Shows) → x.seen ≡ y.seen → x.acts ≡ y.acts → HasSeenAllOf y x
seen_if_same x y a b = (([], append-nil x.seen ∙ a), ([], append-nil x.acts ∙ b))

reminding_keeps : (root after y : Shows) → IsReminded root y after → HasSeenAllOf after root
reminding_keeps root after y is = seen_if_same root after (ap (λ (s : Shows). s.seen) (sym is.0)) (ap (λ (s : Shows). s.acts) (sym is.0))

making_keeps : (root after y : Shows) → IsMade root y after → HasSeenAllOf after root
making_keeps root after y (room, is, made) = seen_if_same root after (ap (λ (s : Shows). s.seen) (sym is)) (ap (λ (s : Shows). s.acts) (sym is))

made_has_seen : (root after y : Shows) → IsMade root y after → HasSeenAllOf y root
made_has_seen root after y (room, is, (who, made)) = seen_if_same root y (ap (λ (s : Shows). s.seen) (sym made.is)) (ap (λ (s : Shows). s.acts) (sym made.is))

reminded_has_seen : (root after y : Shows) → IsReminded root y after → HasSeenAllOf y root
reminded_has_seen root after y (is, (x, learns)) = (learns.seen.1, learns.acts.1)

turn_keeps : (root after : Shows) (t : PoolTurn) → IsTurn root t after → HasSeenAllOf after root
turn_keeps root after (give x) learns = (learns.seen.0, learns.acts.0)
turn_keeps root after (take y) is = ⊎_elim (λ (e : IsReminded root y after). reminding_keeps root after y e) (λ (e : IsMade root y after). making_keeps root after y e) is

taken_has_seen : (root after y : Shows) → IsTurn root (take y) after → HasSeenAllOf y root
taken_has_seen root after y is = ⊎_elim (λ (e : IsReminded root y after). reminded_has_seen root after y e) (λ (e : IsMade root y after). made_has_seen root after y e) is

later_has_seen : (between after : List PoolTurn) (root last y : Shows) → AreTurns root (between ++ take y ∷ after) last → HasSeenAllOf y root
later_has_seen [] after root last y (next, turn, rest) = taken_has_seen root next y turn
later_has_seen (t ∷ between) after root last y (next, turn, rest) = seen_trans root next y (turn_keeps root next t turn) (later_has_seen between after next last y rest)

pub next_use_has_seen : (root last x y : Shows) (between after : List PoolTurn) → AreTurns root (give x ∷ between ++ take y ∷ after) last → HasSeenAllOf y x
next_use_has_seen root last x y between after (next, learns, rest) = seen_trans x next y (learns.seen.1, learns.acts.1) (later_has_seen between after next last y rest)
