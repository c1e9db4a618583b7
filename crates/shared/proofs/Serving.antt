-- What each job adds to a run, at its place.
use Rattle.std.proofs.Common.{◌≡◌, ℕ, ◌+◌, ◌≤◌, List, [], ◌∷◌, ◌++◌, map, length, Option, Some, Result, Ok, Err, IfOk, refl, ap, sym, subst, ◌∙◌, arith, append_assoc, append-nil, length-append}
use Rattle.std.specs.Option.{option_map}
use Rattle.std.proofs.lemmas.List.{map-append}
use Rattle.std.proofs.lemmas.Result.{IfOk-weaker}
use Rattle.std.proofs.lemmas.Grind.{flat_map-append}
use mathlib.Core.List.{IsPrefix}
use Rattle.gate.specs.Events.{number_if}
use Rattle.gate.proofs.Lists.{prefix_self, prefix_trans, prefix_length}
use Rattle.sealed.specs.declared.fault.Fault.{Fault}
use Rattle.sealed.specs.declared.fault.Fault.TheVariants.{NoMemory, JournalFull, BadName, TooLong, Busy, BadWidth, NoPass}
use Rattle.history.specs.Step.{Operation, read}
use Rattle.history.specs.History.{History}
use Rattle.lent.specs.declared.grant.Grant.{Grant}
use Rattle.book.specs.declared.answer.Answer.{Answer}
use Rattle.book.specs.declared.answer.Answer.TheVariants.{Granted}
use Rattle.book.specs.Notes.{note_of}
use Rattle.book.specs.Serial.{Deed, called, full, too_long, trimmed, Act, act_of, events_in}
use Rattle.requests.specs.declared.jobs.Ask.{Ask}
use Rattle.requests.specs.declared.jobs.Ask.TheVariants.{Trim}
use Rattle.requests.specs.declared.jobs.Reply.{Reply}
use Rattle.requests.specs.declared.jobs.Reply.TheVariants.{Made, Refused, Trimmed}
use Rattle.shared.specs.Passes.{Which, Shows}
use Rattle.shared.specs.Deeds.{deed_of, act_if, Takes}
use Rattle.shared.specs.Calls.{Called, GrantedIn, IfGranted}
use Rattle.shared.specs.Runs.{operation_asked, call_reply}
use Rattle.shared.proofs.Steps.{act_called}
use Rattle.shared.specs.Serving.{deed_of_reply, IfGrantedTo, Turn, act_in, IsServed, AreServed, places_of, acts_in, Serves}

-- ---- what was served stays served
served-longer : (w l : ℕ) (acts later : List Act) (who : ℕ) (t : Turn) → IsPrefix acts later → IsServed w l acts who t → IsServed w l later who t
served-longer w l acts later who t p is = record {
  deed = is.deed;
  holds = is.holds;
  before = is.before;
  place_is = is.place_is;
  does = is.does;
  stands = prefix_trans (is.before ++ act_of who is.deed) acts later is.stands p;
  granted = is.granted;
}

pub are_served-longer : (w l : ℕ) (acts later : List Act) (who low : ℕ) (turns : List Turn) → IsPrefix acts later → AreServed w l acts who low turns → AreServed w l later who low turns
are_served-longer w l acts later who low [] p are = tt
are_served-longer w l acts later who low (t ∷ turns) p are = (are.0, served-longer w l acts later who t p are.1, are_served-longer w l acts later who (t.place + length (act_in who t)) turns p are.2)

-- it lies inside the acts
served-inside : (w l : ℕ) (acts : List Act) (who : ℕ) (t : Turn) → IsServed w l acts who t → t.place + length (act_in who t) ≤ length acts
served-inside w l acts who t is =
    let long = length-append is.before (act_of who is.deed) in
    let fits = prefix_length (is.before ++ act_of who is.deed) acts is.stands in
    let same : length (act_in who t) ≡ length (act_of who is.deed) = ap (λ d. length (act_if who d)) is.holds in
    let at : length is.before ≡ t.place = is.place_is in
    omega arith

lower : (w l : ℕ) (acts : List Act) (who low low' : ℕ) (turns : List Turn) → low ≤ low' → AreServed w l acts who low' turns → AreServed w l acts who low turns
lower w l acts who low low' [] le are = tt
lower w l acts who low low' (t ∷ turns) le are = (let first : low' ≤ t.place = are.0 in omega arith, are.1, are.2)

-- more turns, past all that was done
are_served-append : (w l : ℕ) (acts later : List Act) (who low : ℕ) (turns more : List Turn) → IsPrefix acts later → low ≤ length acts → AreServed w l acts who low turns
    → AreServed w l later who (length acts) more → AreServed w l later who low (turns ++ more)
are_served-append w l acts later who low [] more p le are past = lower w l later who low (length acts) more le past
are_served-append w l acts later who low (t ∷ turns) more p le are past =
    (are.0, served-longer w l acts later who t p are.1, are_served-append w l acts later who (t.place + length (act_in who t)) turns more p (served-inside w l acts who t are.1) are.2 past)

-- ---- runs
-- no job was done, and perhaps more was seen
serves_none : (v w : Shows) (asks : List Ask) (deed : Option Deed) → act_if v.who deed ≡ [] → Takes v deed w → Serves v asks [] w
serves_none v w asks deed none takes =
    let shown : w.acts ≡ v.acts ++ takes.others = takes.acts ∙ ap (λ l. (v.acts ++ takes.others) ++ l) none ∙ append-nil (v.acts ++ takes.others) in record {
      stays = takes.stays;
      acts = (takes.others, sym shown);
      turns = [];
      asked = (asks, refl);
      replied = refl;
      each = tt;
      did = takes.did ∙ ap (λ l. v.did ++ number_if (length (v.acts ++ takes.others)) l) none;
      lone = λ all. shown ∙ ap (λ l. v.acts ++ l) (takes.lone all);
    }

-- a call was refused
pub serves_refused : (v w : Shows) (asks : List Ask) (o : Operation) (f : Fault) → Called v o (Err f) w → Serves v asks [] w
serves_refused v w asks o f refused = serves_none v w asks (deed_of o (Err f)) (act_called v.who o (Err f)) refused.takes

pub serves_nothing : (v : Shows) (asks : List Ask) → Serves v asks [] v
serves_nothing v asks = record { stays = (refl, refl, refl); acts = prefix_self v.acts; turns = []; asked = (asks, refl); replied = refl; each = tt; did = sym (append-nil v.did); lone = λ all. sym (append-nil v.acts) }

-- a run, and then another
pub serves_append : (v u w : Shows) (asks more : List Ask) (replies others : List Reply) → length replies ≡ length asks → Serves v asks replies u → Serves u more others w
    → Serves v (asks ++ more) (replies ++ others) w
serves_append v u w asks more replies others many one two =
    let stays = one.stays in
    let many_turns : length (map (λ (t : Turn). t.ask) one.turns) ≡ length asks = turns_many one.turns replies (length asks) one.replied many in
    let whole : map (λ (t : Turn). t.ask) one.turns ≡ asks = prefix_all (map (λ (t : Turn). t.ask) one.turns) asks one.asked many_turns in
    let served : AreServed v.store.width v.store.limit w.acts v.who (length u.acts) two.turns =
    subst (λ (s : Which × ℕ). AreServed s.0.width s.0.limit w.acts s.1 (length u.acts) two.turns) (λ i. (stays.0 i, stays.1 i)) two.each in
    record {
      stays = (two.stays.0 ∙ stays.0, two.stays.1 ∙ stays.1, two.stays.2 ∙ stays.2);
      acts = prefix_trans v.acts u.acts w.acts one.acts two.acts;
      turns = one.turns ++ two.turns;
      asked = (
        two.asked.0,
        (λ i. map-append (λ (t : Turn). t.ask) one.turns two.turns i ++ two.asked.0) ∙ append_assoc (map (λ (t : Turn). t.ask) one.turns) (map (λ (t : Turn). t.ask) two.turns) two.asked.0
            ∙ (λ i. whole i ++ two.asked.1 i),
      );
      replied = map-append (λ (t : Turn). t.reply) one.turns two.turns ∙ (λ i. one.replied i ++ two.replied i);
      each = are_served-append v.store.width v.store.limit u.acts w.acts v.who (length v.acts) one.turns two.turns two.acts (prefix_length v.acts u.acts one.acts) one.each served;
      did = two.did ∙ (λ i. one.did i ++ places_of (stays.1 i) two.turns) ∙ append_assoc v.did (places_of v.who one.turns) (places_of v.who two.turns)
          ∙ ap (λ l. v.did ++ l) (sym (flat_map-append (λ (t : Turn). number_if t.place (act_in v.who t)) one.turns two.turns));
      lone = λ all.
          two.lone (stays.2 ∙ all) ∙ (λ i. one.lone all i ++ acts_in (stays.1 i) two.turns) ∙ append_assoc v.acts (acts_in v.who one.turns) (acts_in v.who two.turns)
          ∙ ap (λ l. v.acts ++ l) (sym (flat_map-append (act_in v.who) one.turns two.turns));
    }
  where
    turns_many : (turns : List Turn) (replies : List Reply) (n : ℕ) → map (λ (t : Turn). t.reply) turns ≡ replies → length replies ≡ n → length (map (λ (t : Turn). t.ask) turns) ≡ n
    turns_many turns replies n same many = both turns ∙ ap length same ∙ many
      where
        both : (turns : List Turn) → length (map (λ (t : Turn). t.ask) turns) ≡ length (map (λ (t : Turn). t.reply) turns)
        both [] = refl
        both (t ∷ turns) = let rest = both turns in omega arith

    prefix_all : (xs ys : List Ask) → IsPrefix xs ys → length xs ≡ length ys → xs ≡ ys
    prefix_all [] [] p e = refl
    prefix_all [] (y ∷ ys) p e = absurd (omega arith)
    prefix_all (x ∷ xs) [] p e = absurd (omega arith)
    prefix_all (x ∷ xs) (y ∷ ys) p e = let rest = prefix_all xs ys (p.0, cc (p.1)) (omega arith) in cc (p.1, rest)

-- the run ends before the next job
pub serves_longer : (v u w : Shows) (asks more : List Ask) (replies : List Reply) → length replies ≡ length asks → Serves v asks replies u → Serves u more [] w → Serves v (asks ++ more) replies w
serves_longer v u w asks more replies many one rest =
    subst (λ l. Serves v (asks ++ more) l w) (append-nil replies) (serves_append v u w asks more replies [] many one rest)

-- ---- one job
-- the reply tells a deed that was done, and where it grants a read, the grant is of what was done before, and of itself
pub serves_one : (v w : Shows) (a : Ask) (reply : Reply) (d : Deed) → deed_of_reply a reply ≡ Some d → Takes v (Some d) w → IfGrantedTo w.seen w.store.width (operation_asked a) reply
    → Serves v (a ∷ []) (reply ∷ []) w
serves_one v w a reply d told takes granted =
    let before : List Act = v.acts ++ takes.others in
    let t : Turn = record { place = length before; ask = a; reply = reply } in
    let seen : w.seen ≡ events_in (before ++ act_of v.who d) = takes.agrees.seen_is ∙ ap events_in takes.acts in
    let long : length before ≡ length v.acts + length takes.others = length-append v.acts takes.others in
    record {
      stays = takes.stays;
      acts = (takes.others ++ act_of v.who d, sym (append_assoc v.acts takes.others (act_of v.who d)) ∙ sym takes.acts);
      turns = t ∷ [];
      asked = ([], refl);
      replied = refl;
      each = (
        omega arith,
        record {
          deed = d;
          holds = told;
          before = before;
          place_is = refl;
          does = takes.does;
          stands = ([], append-nil (before ++ act_of v.who d) ∙ sym takes.acts);
          granted = subst (λ (u : History × ℕ). IfGrantedTo u.0 u.1 (operation_asked a) reply) (λ i. (seen i, ap (λ (s : Which). s.width) takes.stays.0 i)) granted;
        },
        tt,
      );
      did = takes.did ∙ ap (λ l. v.did ++ l) (ap (λ l. number_if (length before) l) (ap (act_if v.who) (sym told)) ∙ sym (append-nil (number_if (length before) (act_in v.who t))));
      lone = λ all.
          takes.acts ∙ (λ i. (v.acts ++ takes.lone all i) ++ act_if v.who (sym told i)) ∙ (λ i. append-nil v.acts i ++ act_in v.who t)
          ∙ ap (λ l. v.acts ++ l) (sym (append-nil (act_in v.who t)));
    }

-- a call by its reply
serves_call : (v w : Shows) (a : Ask) (o : Operation) (r : Result Answer Fault) → operation_asked a ≡ Some o → Called v o r w
    → IfOk r (λ answer. IfGrantedTo w.seen w.store.width (Some o) (Made answer)) → IfOk (call_reply r) (λ reply. Serves v (a ∷ []) (reply ∷ []) w)
serves_call v w a o (Ok answer) asked made granted =
    serves_one v w a (Made answer) (called o (note_of answer)) (ap (option_map (λ p. called p (note_of answer))) asked) made.takes
    (subst (λ (p : Option Operation). IfGrantedTo w.seen w.store.width p (Made answer)) (sym asked) granted)
serves_call v w a o (Err JournalFull) asked made granted = serves_one v w a (Refused JournalFull) (full o) (ap (option_map full) asked) made.takes (λ n start len g read_asked is. absurd (cc is))
serves_call v w a o (Err TooLong) asked made granted = serves_one v w a (Refused TooLong) (too_long o) (ap (option_map too_long) asked) made.takes (λ n start len g read_asked is. absurd (cc is))
serves_call v w a o (Err NoMemory) asked made granted = tt
serves_call v w a o (Err BadName) asked made granted = tt
serves_call v w a o (Err Busy) asked made granted = tt
serves_call v w a o (Err BadWidth) asked made granted = tt
serves_call v w a o (Err NoPass) asked made granted = tt

-- a read that was granted
read_granted : (h : History) (w : ℕ) (n : List ℕ) (start len : ℕ) (answer : Answer) → IfGranted answer (GrantedIn h w n start len) → IfGrantedTo h w (Some (read n start len)) (Made answer)
read_granted h w n start len answer there m begin many g asked made =
    let same_answer : answer ≡ Granted g = cc made in
    let same_read : read n start len ≡ read m begin many = cc asked in
    subst (λ (o : Operation). GrantedOf o g) same_read (subst (λ (a : Answer). IfGranted a (GrantedIn h w n start len)) same_answer there)
  where
    GrantedOf : Operation → Grant → Type 0
    GrantedOf (read n start len) g = GrantedIn h w n start len g
    GrantedOf o g = Unit {0}

-- the reply to a call that is no read
pub serves_made : (v w : Shows) (a : Ask) (o : Operation) (r : Result Answer Fault) (x : Result Reply Fault) → operation_asked a ≡ Some o → x ≡ call_reply r → Called v o r w
    → ((n : List ℕ) (start len : ℕ) → o ≡ read n start len → ⊥) → IfOk x (λ reply. Serves v (a ∷ []) (reply ∷ []) w)
serves_made v w a o r x asked is made other = subst (λ (x : Result Reply Fault). IfOk x (λ reply. Serves v (a ∷ []) (reply ∷ []) w)) (sym is) (serves_call v w a o r asked made (by r))
  where
    by : (r : Result Answer Fault) → IfOk r (λ answer. IfGrantedTo w.seen w.store.width (Some o) (Made answer))
    by (Ok answer) = λ n start len g read_asked granted. absurd (other n start len (cc read_asked))
    by (Err fault) = tt

-- the reply to a read
pub serves_read : (v w : Shows) (a : Ask) (n : List ℕ) (start len : ℕ) (r : Result Answer Fault) (x : Result Reply Fault) → operation_asked a ≡ Some (read n start len) → x ≡ call_reply r
    → Called v (read n start len) r w → IfOk r (λ answer. IfGranted answer (GrantedIn w.seen w.store.width n start len)) → IfOk x (λ reply. Serves v (a ∷ []) (reply ∷ []) w)
serves_read v w a n start len r x asked is made granted =
    subst (λ (x : Result Reply Fault). IfOk x (λ reply. Serves v (a ∷ []) (reply ∷ []) w)) (sym is)
    (serves_call v w a (read n start len) r asked made
    (IfOk-weaker r (λ answer. IfGranted answer (GrantedIn w.seen w.store.width n start len)) (λ answer. IfGrantedTo w.seen w.store.width (Some (read n start len)) (Made answer))
    (λ answer there. read_granted w.seen w.store.width n start len answer there) granted))

-- a trim
pub serves_trim : (v w : Shows) (keep n : ℕ) → Takes v (Some (trimmed keep n)) w → Serves v (Trim keep ∷ []) (Trimmed n ∷ []) w
serves_trim v w keep n takes = serves_one v w (Trim keep) (Trimmed n) (trimmed keep n) refl takes (λ m start len g asked is. absurd (cc asked))
