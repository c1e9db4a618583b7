-- After a round that does not end the run, each worker came to the end of its part.
use Rattle.std.proofs.Common.{◌≡◌, ◌||◌, Bool, true, false, List, [], ◌∷◌, None, Some, Ok, Err, not, refl, true≢false}
use Rattle.std.specs.Prelude.{if◌then◌else◌}
use Rattle.std.specs.List.{list_any}
use Rattle.sealed.specs.declared.fault.Fault.{Fault}
use Rattle.sealed.specs.declared.fault.Fault.TheVariants.{NoMemory, JournalFull, BadName, TooLong, Busy, BadWidth, NoPass}
use Rattle.rounds.specs.declared.kinds.Mended.TheVariants.{Worked, Paused}
use Rattle.rounds.specs.declared.kinds.Mended.{Mended}
use Rattle.rounds.specs.declared.kinds.Returned.{Returned}
use Rattle.rounds.specs.Halts.{halt_after, GoesOn}
use Rattle.rounds.specs.Errands.{is_journal_full, mend_lacks_memory, mend_is_paused}
use Rattle.play.specs.Lists.{Each}
use Rattle.play.specs.Mends.{HasEnded, AreEnded}
use Rattle.rounds.specs.declared.halt.Halt.TheVariants as halt
use Rattle.play.proofs.Buckets.{each-both}

-- ---- each goes on
or_none : (a b : Bool) → (a || b) ≡ false → (a ≡ false) × (b ≡ false)
or_none true b e = absurd (true≢false e)
or_none false b e = (refl, e)

none_of : {O : Type 0} (p : O → Bool) (os : List O) → list_any p os ≡ false → Each (λ o. p o ≡ false) os
none_of p [] e = tt
none_of p (o ∷ os) e = let both = or_none (p o) (list_any p os) e in (both.0, none_of p os both.1)

neither : (a b : Bool) → (if a then Some halt.Memory else if b then Some halt.Paused else None) ≡ None → (a ≡ false) × (b ≡ false)
neither true b e = absurd (cc (e))
neither false true e = absurd (cc (e))
neither false false e = (refl, refl)

pub all_go_on : {O : Type 0} (lacks paused : O → Bool) (os : List O) → halt_after lacks paused os ≡ None → Each (GoesOn lacks paused) os
all_go_on lacks paused os none =
    let no = neither (list_any lacks os) (list_any paused os) none in
    each-both (λ o. lacks o ≡ false) (λ o. paused o ≡ false) os (none_of lacks os no.0) (none_of paused os no.1)

-- ---- what that says of a mend
full_of : (fault : Fault) → not (is_journal_full fault) ≡ false → fault ≡ JournalFull
full_of JournalFull e = refl
full_of BadName e = absurd (true≢false e)
full_of TooLong e = absurd (true≢false e)
full_of Busy e = absurd (true≢false e)
full_of BadWidth e = absurd (true≢false e)
full_of NoPass e = absurd (true≢false e)
full_of NoMemory e = absurd (true≢false e)

goes_ended : (m : Mended) → (mend_lacks_memory m ≡ false) × (mend_is_paused m ≡ false) → HasEnded m
goes_ended (Worked (Ok done)) goes = tt
goes_ended (Worked (Err stop)) goes = full_of stop.fault goes.0
goes_ended Paused goes = absurd (true≢false goes.1)

pub are_ended : (os : List Returned) → Each (GoesOn (λ (o : Returned). mend_lacks_memory o.mended) (λ (o : Returned). mend_is_paused o.mended)) os → AreEnded os
are_ended [] go = tt
are_ended (o ∷ os) go = (goes_ended o.mended go.0, are_ended os go.1)
