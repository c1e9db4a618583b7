-- The printed text of a reply is the text of the deed that it represents.
use Rattle.std.proofs.Common.{◌≡◌, ◌∙◌, ◌==◌, ℕ, Bool, true, false, List, [], ◌∷◌, ◌++◌, Option, None, Some, MatchBool, MatchOption, length, refl, ap, sym, subst, ⊎_elim}
use Rattle.std.specs.Option.{option_map}
use Rattle.std.specs.FinMap as finite
use Rattle.std.specs.FinSet as set
use Rattle.sealed.specs.declared.fault.Fault.TheVariants.{NoMemory, JournalFull, BadName, TooLong, Busy, BadWidth, NoPass}
use Rattle.lent.specs.declared.grant.Grant.{Grant}
use Rattle.history.specs.State.{Blob, State, empty_state}
use Rattle.history.specs.Text.{note_text}
use Rattle.history.specs.declared.note.Note.{Note}
use Rattle.history.specs.declared.note.Note.TheVariants as note
use Rattle.history.specs.Step.{Operation, put, read, lose, repair, restore, delete, stat, IfHolds, IsLoseReply, IsRepairReply, IsRestoreReply, stripes_of, is_no_fragment}
use Rattle.history.specs.History.{Event, History, state_of}
use Rattle.history.proofs.Beginnings.{after_all-append}
use Rattle.sealed.specs.Blob.{lost_in}
use Rattle.book.specs.declared.answer.Answer.{Answer}
use Rattle.book.specs.declared.answer.Answer.TheVariants as answer
use Rattle.book.specs.Notes.{note_of}
use Rattle.book.specs.Serial.{Deed, called, full, too_long, trimmed, Does, Act, act_of, events_in, standing_of}
use Rattle.requests.proofs.Between.{events-append}
use Rattle.requests.specs.declared.jobs.Ask.{Ask}
use Rattle.requests.specs.declared.jobs.Ask.TheVariants as ask
use Rattle.requests.specs.declared.jobs.Reply.{Reply}
use Rattle.requests.specs.declared.jobs.Reply.TheVariants.{Made, Refused, Trimmed}
use Rattle.shared.specs.Calls.{GrantedIn}
use Rattle.shared.specs.Runs.{operation_asked}
use Rattle.shared.specs.Serving.{keep_asked, deed_of_reply, IfGrantedTo}
use Rattle.transcript.specs.Lines.{IsLineFor, IsAnswerLine, line_text}
use Rattle.play.specs.Runs.{IsAsked}
use Rattle.play.specs.Printed as printed
use Rattle.play.specs.Printed.{deed_text}
use Rattle.transcript.specs.declared.outcome.RowOutcome.TheVariants.{Replied}
use Rattle.transcript.specs.declared.line.Line as lines
use Rattle.transcript.specs.declared.line.Line.TheVariants as line
use Rattle.play.proofs.Reading.{reading_is}

neither_way : (b : Bool) (P Q : Type 0) → (P → ⊥) → (Q → ⊥) → MatchBool b P Q → ⊥
neither_way true P Q p q is = p is
neither_way false P Q p q is = q is

neither_case : (P A B : Type 0) → (A → ⊥) → (B → ⊥) → IfHolds P A B → ⊥
neither_case P A B a b is = ⊎_elim (λ (x : P × A). a x.1) (λ (y : (P → ⊥) × B). b y.1) is

-- only a read is granted
module _ (w v : ℕ) where
  not_lose : (found : Option Blob) (j f : ℕ) → IsLoseReply w found j f (note.Granted v) → ⊥
  not_lose None j f is = cc (is)
  not_lose (Some blob) j f is = neither_way (is_no_fragment w blob j f) _ _ (λ e. cc (e)) (neither_way (lost_in blob.lost j f) _ _ (λ e. cc (e)) (λ e. cc (e))) is

  not_repair : (found : Option Blob) (j f : ℕ) → IsRepairReply w found j f (note.Granted v) → ⊥
  not_repair None j f is = cc (is)
  not_repair (Some blob) j f is =
      neither_way (is_no_fragment w blob j f) _ _ (λ e. cc (e)) (neither_way (lost_in blob.lost j f) _ _ (neither_case _ _ _ (λ e. cc (e)) (λ e. cc (e))) (λ e. cc (e))) is

  not_restore : (found : Option Blob) (x j f : ℕ) → IsRestoreReply w found x j f (note.Granted v) → ⊥
  not_restore None x j f is = cc (is)
  not_restore (Some blob) x j f is =
      neither_way (blob.version == x) _ _ (neither_way (is_no_fragment w blob j f) _ _ (λ e. cc (e)) (neither_way (lost_in blob.lost j f) _ _ (λ e. cc (e)) (λ e. cc (e)))) (λ e. cc (e)) is

  not_delete : (found : Option Blob) → MatchOption found (note.Granted v ≡ note.NoName) (λ blob. note.Granted v ≡ note.Deleted blob.version) → ⊥
  not_delete None is = cc (is)
  not_delete (Some blob) is = cc (is)

  not_stat : (found : Option Blob) → MatchOption found (note.Granted v ≡ note.NoName) (λ blob. note.Granted v ≡ note.Shape blob.version (length blob.bytes) (stripes_of w blob) (set.len blob.lost)) → ⊥
  not_stat None is = cc (is)
  not_stat (Some blob) is = cc (is)

-- the text of a note that is no grant
plain : (w : ℕ) (before : List Act) (o : Operation) (m : Note) → ((v : ℕ) → m ≡ note.Granted v → ⊥) → printed.reply_text w (standing_of before) o m ≡ note_text m
plain w before (put n code b) m none = refl
plain w before (lose n j f) m none = refl
plain w before (repair n j f) m none = refl
plain w before (restore n x j f) m none = refl
plain w before (delete n) m none = refl
plain w before (stat n) m none = refl
plain w before (read n start len) (note.Granted v) none = absurd (none v refl)
plain w before (read n start len) (note.Stored v) none = refl
plain w before (read n start len) note.NoName none = refl
plain w before (read n start len) note.OutOfRange none = refl
plain w before (read n start len) (note.Unrecoverable v) none = refl
plain w before (read n start len) (note.Lost v) none = refl
plain w before (read n start len) note.NoFragment none = refl
plain w before (read n start len) note.AlreadyLost none = refl
plain w before (read n start len) (note.Repaired v) none = refl
plain w before (read n start len) note.NotLost none = refl
plain w before (read n start len) (note.Replaced v) none = refl
plain w before (read n start len) (note.Deleted v) none = refl
plain w before (read n start len) (note.Shape v len' stripes lost) none = refl

noted_text : (w : ℕ) (before : List Act) (o : Operation) (m : Note) (reply : lines.Line) → ((v : ℕ) → m ≡ note.Granted v → ⊥) → reply ≡ line.Noted m → line_text reply ≡ printed.reply_text w (standing_of before) o m
noted_text w before o m reply none is = ap line_text is ∙ sym (plain w before o m none)

-- if it is a read and the answer is a grant, the grant is one after this history
abbrev GrantsIn : History → ℕ → Operation → Answer → Type 0
GrantsIn h w o a = (n : List ℕ) (start len : ℕ) (g : Grant) → o ≡ read n start len → a ≡ answer.Granted g → GrantedIn h w n start len g

granted_text : (w l : ℕ) (who : ℕ) (before : List Act) (o : Operation) (g : Grant) (reply : lines.Line) → Does w l (standing_of before) (called o (note_of (answer.Granted g)))
    → GrantsIn (events_in (before ++ act_of who (called o (note_of (answer.Granted g))))) w o (answer.Granted g) → IsAnswerLine (answer.Granted g) reply
    → line_text reply ≡ printed.reply_text w (standing_of before) o (note_of (answer.Granted g))
granted_text w l who before (put n code b) g reply does there is = absurd (cc (does.1.1))
granted_text w l who before (lose n j f) g reply does there is = absurd (not_lose w _ _ j f does.1)
granted_text w l who before (repair n j f) g reply does there is = absurd (not_repair w _ _ j f does.1)
granted_text w l who before (restore n x j f) g reply does there is = absurd (not_restore w _ _ x j f does.1)
granted_text w l who before (delete n) g reply does there is = absurd (not_delete w _ _ does.1)
granted_text w l who before (stat n) g reply does there is = absurd (not_stat w _ _ does.1)
granted_text w l who before (read n start len) g (line.Granted reading) does there is =
    let e : Event = record { who = who; operation = read n start len; note = note_of (answer.Granted g) } in
    let h : History = events_in before in
    let all : events_in (before ++ act_of who (called (read n start len) (note_of (answer.Granted g)))) ≡ h ++ e ∷ [] = events-append before _ in
    let same : state_of (events_in (before ++ act_of who (called (read n start len) (note_of (answer.Granted g))))) ≡ state_of h = ap state_of all ∙ after_all-append empty_state h (e ∷ []) in
    reading_is (events_in (before ++ act_of who (called (read n start len) (note_of (answer.Granted g))))) w n start len g reading (there n start len g refl refl) is
    ∙ ap (λ (s : State). printed.granted_text w start len (finite.get s.names n)) same
granted_text w l who before (read n start len) g (line.Noted m) does there is = absurd is
granted_text w l who before (read n start len) g (line.Trimmed m) does there is = absurd is
granted_text w l who before (read n start len) g (line.Mended m) does there is = absurd is
granted_text w l who before (read n start len) g line.Full does there is = absurd is
granted_text w l who before (read n start len) g line.TooLong does there is = absurd is

answer_text : (w l : ℕ) (who : ℕ) (before : List Act) (o : Operation) (a : Answer) (reply : lines.Line) → Does w l (standing_of before) (called o (note_of a))
    → GrantsIn (events_in (before ++ act_of who (called o (note_of a)))) w o a → IsAnswerLine a reply → line_text reply ≡ printed.reply_text w (standing_of before) o (note_of a)
answer_text w l who before o (answer.Granted g) reply does there is = granted_text w l who before o g reply does there is
answer_text w l who before o (answer.Stored v) reply does there is = noted_text w before o (note.Stored v) reply (λ v e. cc (e)) is
answer_text w l who before o answer.NoName reply does there is = noted_text w before o note.NoName reply (λ v e. cc (e)) is
answer_text w l who before o answer.OutOfRange reply does there is = noted_text w before o note.OutOfRange reply (λ v e. cc (e)) is
answer_text w l who before o (answer.Unrecoverable v) reply does there is = noted_text w before o (note.Unrecoverable v) reply (λ v e. cc (e)) is
answer_text w l who before o (answer.Lost v) reply does there is = noted_text w before o (note.Lost v) reply (λ v e. cc (e)) is
answer_text w l who before o answer.NoFragment reply does there is = noted_text w before o note.NoFragment reply (λ v e. cc (e)) is
answer_text w l who before o answer.AlreadyLost reply does there is = noted_text w before o note.AlreadyLost reply (λ v e. cc (e)) is
answer_text w l who before o (answer.Repaired v) reply does there is = noted_text w before o (note.Repaired v) reply (λ v e. cc (e)) is
answer_text w l who before o answer.NotLost reply does there is = noted_text w before o note.NotLost reply (λ v e. cc (e)) is
answer_text w l who before o (answer.Replaced v) reply does there is = noted_text w before o (note.Replaced v) reply (λ v e. cc (e)) is
answer_text w l who before o (answer.Deleted v) reply does there is = noted_text w before o (note.Deleted v) reply (λ v e. cc (e)) is
answer_text w l who before o (answer.Shape v len stripes lost) reply does there is = noted_text w before o (note.Shape v len stripes lost) reply (λ v e. cc (e)) is

some_deed : {a b : Deed} → Some a ≡ Some b → a ≡ b
some_deed e = cc (e)

no_deed : {a : Deed} → ◌≡◌ {A = Option Deed} None (Some a) → ⊥
no_deed e = cc (e)

-- the reply is the text of the deed
pub text_of : (w l who : ℕ) (a : Ask) (r : Reply) (deed : Deed) (before : List Act) (reply : lines.Line) → deed_of_reply a r ≡ Some deed → Does w l (standing_of before) deed
    → IfGrantedTo (events_in (before ++ act_of who deed)) w (operation_asked a) r → IsLineFor (Replied r) reply → line_text reply ≡ deed_text w (standing_of before) deed
text_of w l who a r deed before reply told does there is = by r (operation_asked a) (keep_asked a) told there is
  where
    made : (o : Operation) (x : Answer) → called o (note_of x) ≡ deed → GrantsIn (events_in (before ++ act_of who deed)) w o x → IsAnswerLine x reply → line_text reply ≡ deed_text w (standing_of before) deed
    made o x e there is =
        answer_text w l who before o x reply (subst (Does w l (standing_of before)) (sym e) does) (subst (λ (d : Deed). GrantsIn (events_in (before ++ act_of who d)) w o x) (sym e) there) is
        ∙ ap (λ (d : Deed). deed_text w (standing_of before) d) e

    refused : (d : Deed) (s : lines.Line) → d ≡ deed → reply ≡ s → line_text s ≡ deed_text w (standing_of before) d → line_text reply ≡ deed_text w (standing_of before) deed
    refused d s e is same = ap line_text is ∙ same ∙ ap (λ (d : Deed). deed_text w (standing_of before) d) e

    told_in : Option Operation → Option ℕ → Reply → Option Deed
    told_in o k (Made x) = option_map (λ o. called o (note_of x)) o
    told_in o k (Refused JournalFull) = option_map full o
    told_in o k (Refused TooLong) = option_map too_long o
    told_in o k (Refused f) = None
    told_in o k (Trimmed n) = option_map (λ keep. trimmed keep n) k

    by : (r : Reply) (o : Option Operation) (k : Option ℕ) → told_in o k r ≡ Some deed → IfGrantedTo (events_in (before ++ act_of who deed)) w o r → IsLineFor (Replied r) reply → line_text reply ≡ deed_text w (standing_of before) deed
    by (Made x) None k told there is = absurd (no_deed told)
    by (Made x) (Some o) k told there is = made o x (some_deed told) (λ n start len g o_is x_is. there n start len g (ap Some o_is) (ap Made x_is)) is
    by (Refused JournalFull) None k told there is = absurd (no_deed told)
    by (Refused JournalFull) (Some o) k told there is = refused (full o) line.Full (some_deed told) is refl
    by (Refused TooLong) None k told there is = absurd (no_deed told)
    by (Refused TooLong) (Some o) k told there is = refused (too_long o) line.TooLong (some_deed told) is refl
    by (Refused NoMemory) o k told there is = absurd (no_deed told)
    by (Refused BadName) o k told there is = absurd (no_deed told)
    by (Refused Busy) o k told there is = absurd (no_deed told)
    by (Refused BadWidth) o k told there is = absurd (no_deed told)
    by (Refused NoPass) o k told there is = absurd (no_deed told)
    by (Trimmed n) o None told there is = absurd (no_deed told)
    by (Trimmed n) o (Some keep) told there is = refused (trimmed keep n) (line.Trimmed n) (some_deed told) is refl

trim_of : (a : Ask) (keep : ℕ) → keep_asked a ≡ Some keep → a ≡ ask.Trim keep
trim_of (ask.Trim k) keep is = cc (is)
trim_of (ask.Put name code bytes) keep is = absurd (cc (is))
trim_of (ask.Read name start len) keep is = absurd (cc (is))
trim_of (ask.Lose name j f) keep is = absurd (cc (is))
trim_of (ask.Repair name j f) keep is = absurd (cc (is))
trim_of (ask.Delete name) keep is = absurd (cc (is))
trim_of (ask.Stat name) keep is = absurd (cc (is))

-- and what was asked for
pub asked_by : (a : Ask) (r : Reply) (deed : Deed) → deed_of_reply a r ≡ Some deed → IsAsked a deed
asked_by a r deed told = by r told
  where
    call : (f : Operation → Deed) → ((o : Operation) → operation_asked a ≡ Some o → IsAsked a (f o)) → (o : Option Operation) → operation_asked a ≡ o → option_map f o ≡ Some deed → IsAsked a deed
    call f h None e is = absurd (no_deed is)
    call f h (Some o) e is = subst (IsAsked a) (some_deed is) (h o e)

    keep : (n : ℕ) (k : Option ℕ) → keep_asked a ≡ k → option_map (λ keep. trimmed keep n) k ≡ Some deed → IsAsked a deed
    keep n None e is = absurd (no_deed is)
    keep n (Some k) e is = subst (IsAsked a) (some_deed is) (trim_of a k e)

    by : (r : Reply) → deed_of_reply a r ≡ Some deed → IsAsked a deed
    by (Made x) is = call (λ o. called o (note_of x)) (λ o e. e) (operation_asked a) refl is
    by (Refused JournalFull) is = call full (λ o e. e) (operation_asked a) refl is
    by (Refused TooLong) is = call too_long (λ o e. e) (operation_asked a) refl is
    by (Refused NoMemory) is = absurd (no_deed is)
    by (Refused BadName) is = absurd (no_deed is)
    by (Refused Busy) is = absurd (no_deed is)
    by (Refused BadWidth) is = absurd (no_deed is)
    by (Refused NoPass) is = absurd (no_deed is)
    by (Trimmed n) is = keep n (keep_asked a) refl is
