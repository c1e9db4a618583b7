-- The rule of the tickets, and what its steps show. The word is the count of all draws.
use Rattle.std.specs.Prelude.{◌≡◌, ℕ, ◌+◌, ◌-◌, ◌/◌, ◌^◌, ◌<◌, ◌≤◌, List, [], ◌∷◌, ◌++◌, length, slice_index, sum_by, All}
use Rattle.atomic_table.specs.Table.{State, Me, Step}
use Rattle.atomic_table.specs.declared.shared.Seat.{Seat}
use Rattle.mender.specs.declared.view.DrawerView.{DrawerView}
use Rattle.gate.specs.Places.{times}
use Rattle.mender.specs.Drawn.{DrawerState, once_below, AreFirst}

-- what a slot would hold: the table has none
abbrev pub Nothing : Type 0
Nothing = Unit {0}

-- a drawer's view
abbrev pub drawer_view : ℕ → List ℕ → DrawerView
drawer_view allowance drawn = record { allowance = allowance; drawn = drawn }

-- of the first drawer
abbrev pub opening : DrawerView
opening = drawer_view (2 ^ 40) []

-- what a join leaves of the other drawer
abbrev pub spent : DrawerView
spent = drawer_view 0 []

-- how many numbers it has drawn
abbrev pub draws_of : DrawerView → ℕ
draws_of v = length v.drawn

-- how many numbers are its share: drawn, or still to be drawn
abbrev pub allotment : DrawerView → ℕ
allotment v = v.allowance + length v.drawn

-- how often it has drawn n
abbrev pub times_in : ℕ → DrawerView → ℕ
times_in n v = times n v.drawn

-- the word counts all draws, each number below it was drawn by one drawer, once, and all shares add
-- up
pub record Invariant (s : State Nothing DrawerView) : Type 0 where
  pub one_word : length s.words ≡ 1
  pub count : slice_index s.words 0 ≡ sum_by draws_of s.views
  pub once : (n : ℕ) → sum_by (times_in n) s.views ≡ once_below n (slice_index s.words 0)
  pub shares : sum_by allotment s.views ≡ 2 ^ 40

-- what the rule says of one drawer: it has drawn no number twice, and where its share is the whole,
-- those below the count of its draws
pub record Known (v : DrawerView) : Type 0 where
  pub once : (n : ℕ) → times n v.drawn ≤ 1
  pub few : allotment v ≤ 2 ^ 40
  pub whole : allotment v ≡ 2 ^ 40 → AreFirst v.drawn (length v.drawn)

-- the view after a draw of n
abbrev pub drawn_more : DrawerView → ℕ → DrawerView
drawn_more v n = drawer_view (v.allowance - 1) (v.drawn ++ n ∷ [])

-- The number that was found is the drawer's, and above all that it had drawn. A drawer whose share
-- is the whole finds the count of its draws
abbrev pub Drew : Step Nothing → Me Nothing DrawerView → ℕ → Me Nothing DrawerView → Type 0
Drew st m found m' =
    (m' ≡ (drawn_more m.0 found, m.1)) × (times found m.0.drawn ≡ 0) × Known (drawn_more m.0 found)
    × All (λ n. n < found) m.0.drawn × (allotment m.0 ≡ 2 ^ 40 → found ≡ length m.0.drawn)

-- nothing changes
abbrev pub Looked : Step Nothing → Me Nothing DrawerView → ℕ → Me Nothing DrawerView → Type 0
Looked st m found m' = (m' ≡ m) × Known m.0

-- how a view is cut in two: what the drawer keeps
abbrev pub kept_half : DrawerView → DrawerView
kept_half v = drawer_view (v.allowance - v.allowance / 2) v.drawn

-- and what the new one gets
abbrev pub given_half : DrawerView → DrawerView
given_half v = drawer_view (v.allowance / 2) []

-- how two views are put together
abbrev pub both : DrawerView → DrawerView → DrawerView
both v w = drawer_view (v.allowance + w.allowance) (v.drawn ++ w.drawn)

-- what a clause sees of a drawer
abbrev pub hand_of : Seat Nothing DrawerView → DrawerState
hand_of s = record { tickets = s.table_id; allowance = s.me.0.allowance; drawn = s.me.0.drawn }

-- a drawer between two calls
pub record IsDrawer (me : Me Nothing DrawerView) (allowance : ℕ) : Type 0 where
  pub slots : me.1 ≡ []
  pub allowance_is : allowance ≡ me.0.allowance
  pub known : Known me.0
