-- No message has a number that is no integer.
use Rattle.std.proofs.Common.{◌≡◌, ℕ, ℤ, inl, inr, zero, suc, ◌+◌, ◌-◌, List, [], ◌∷◌, length, Bool, true, false, ◌||◌, cond, Option, Some, None, codes, refl, sym, subst}
use Rattle.std.specs.Prelude.{nat_eq, nat_lt, slice_get, slice_index_or}
use Rattle.std.proofs.lemmas.Bool.{or_from}
use Rattle.std.specs.Str.Lossy.{utf8_lossy}
use Rattle.serde_json.specs.Data.{Data, null}
use Rattle.serde_json.specs.Written.{has_float}
use Rattle.pb_base.specs.Banker.{processes, resources}
use Rattle.pb_base.specs.Lines.{name_of}
use Rattle.pb_code.specs.Code.{CodeProcess, Thread, thread}
use Rattle.pb_conversations.specs.Conversations.{AreFloatFree}
use Rattle.pb_debug.specs.Value.{Debugging, bank_state, state_of}
use Rattle.pb_adapter_requests.proofs.FreeItems.{AreFree, append_free, cond_free, one_free}
use Rattle.pb_code.specs.Whole.{ProcessLabels}
use Rattle.pb_adapter_requests.specs.Breakpoints.{answered_line, asked_lines, is_of_text}
use Rattle.pb_adapter_requests.specs.declared.counting.Counting.{Counting}
use Rattle.pb_adapter_requests.specs.Requests.{Asked, Place, number_of, place_of, text_of}
use Rattle.pb_adapter_requests.specs.Responses.{done_data, list_below, refused_data}
use Rattle.pb_adapter_requests.specs.declared.kind.Kind.{Kind}
use Rattle.pb_adapter_requests.specs.declared.kind.Kind.TheVariants as kind
use Rattle.pb_adapter_values.specs.Values.{arm_name, arms_below, arms_of, cash_list, is_idle, loans_list, result_data, scopes_if, thread_data, thread_if, thread_number}
use Rattle.pb_adapter.specs.Answers.{AnswersKind, Client, ContinuesTo, Evaluates, GoesTo, StaysIf, evaluated_data, refuses_from, without_feed}
use Rattle.pb_adapter.specs.Moves.{end_data, is_event_first, saying_data, stopped_data, tried_reason}
use Rattle.pb_adapter.specs.Values.{frames_if, integers_at, stack_data, threads_below, threads_data, variables_data, variables_list, vars_of}
use Rattle.pb_adapter.specs.Values.{has_arm, operands_in, reference_or_none, scopes_at}

-- ---- lists

below_free : (told : ℕ → Data) → ((i : ℕ) → has_float (told i) ≡ false) → (n : ℕ) → AreFree (list_below told n)
below_free told each zero = refl
below_free told each (suc n) =
    append_free (list_below told n) (told n ∷ []) (below_free told each n) (one_free (told n) (each n))

-- ---- what is told of the state

thread_free : (name : List ℕ) (p a : ℕ) (t : Thread) → AreFree (thread_if name p a t)
thread_free name p a t =
    let one : List Data = thread_data (thread_number p a) (arm_name name a) ∷ [] in
    cond_free (nat_eq a 0) one (cond (is_idle t) [] one) refl (cond_free (is_idle t) [] one refl refl)

arms_free : (name : List ℕ) (p : ℕ) (ts : List Thread) (n : ℕ) → AreFree (arms_below name p ts n)
arms_free name p ts zero = refl
arms_free name p ts (suc n) =
    append_free (arms_below name p ts n) (thread_if name p n (thread ts n)) (arms_free name p ts n) (thread_free name p n (thread ts n))

process_free : (name : List ℕ) (p : ℕ) (process : Option CodeProcess) → AreFree (arms_of name p process)
process_free name p None = refl
process_free name p (Some process) = arms_free name p process.threads (length process.threads)

threads_free : (names : List (List ℕ)) (ps : List CodeProcess) (n : ℕ) → AreFree (threads_below names ps n)
threads_free names ps zero = refl
threads_free names ps (suc n) =
    append_free (threads_below names ps n) (arms_of (name_of names n) n (slice_get ps n)) (threads_free names ps n)
    (process_free (name_of names n) n (slice_get ps n))

frames_free : (there : Bool) (frame : Data) → has_float frame ≡ false → AreFree (frames_if there frame)
frames_free true frame free = one_free frame free
frames_free false frame free = refl

abbrev operands_of : Debugging → Place → List ℤ
operands_of d at = operands_in (slice_get (state_of d).processes at.process) at.arm

variables_free : (d : Debugging) (n : ℕ) → AreFree (variables_list d n)
variables_free d n =
    let names = d.verified.code.names.resources in
    let s = bank_state d in
    cond_free (nat_eq n 0) [] _ refl
    (cond_free (nat_lt n 65) (integers_at d (n - 1)) _ (below_free _ (λ i. refl) (length (vars_of (slice_get (state_of d).processes (n - 1)))))
    (cond_free (nat_lt n 129) (loans_list names s (n - 65)) _
    (cond_free (nat_lt (n - 65) (processes s)) _ [] (below_free _ (λ i. refl) (resources s)) refl)
    (cond_free (nat_eq n 129) (cash_list names s) _ (below_free _ (λ i. refl) (resources s))
    (below_free _ (λ i. refl) (length (operands_of d (place_of (Some (n - 129)))))))))

scopes_free : (there : Bool) (p a : ℕ) → AreFree (scopes_if there p a)
scopes_free true p a = refl
scopes_free false p a = refl

-- ---- messages

listed_free : (b : Bool) → b ≡ false → (b || false) ≡ false
listed_free b free = or_from b false free refl

pub done_free : (seq : ℕ) (r : Asked) (body : Data) → has_float body ≡ false → has_float (done_data seq r body) ≡ false
done_free seq r body free = listed_free (has_float body) free

-- a response alone
pub shown_free : (seq : ℕ) (r : Asked) (body : Data) (told : List Data) → has_float body ≡ false → told ≡ done_data seq r body ∷ [] → AreFloatFree told
shown_free seq r body told free is = subst AreFloatFree (sym is) (done_free seq r body free, tt)

pub refused_free : (seq : ℕ) (r : Asked) (message : List ℕ) (told : List Data) → told ≡ refused_data seq r message ∷ [] → AreFloatFree told
refused_free seq r message told is = subst AreFloatFree (sym is) (refl, tt)

-- a response and an event
pub told_free : (seq : ℕ) (r : Asked) (body event : Data) (told : List Data) → has_float body ≡ false → has_float event ≡ false
    → told ≡ done_data seq r body ∷ event ∷ [] → AreFloatFree told
told_free seq r body event told free free' is = subst AreFloatFree (sym is) (done_free seq r body free, (free', tt))

moved_free : (b : Bool) (response event : Data) → has_float response ≡ false → has_float event ≡ false
    → AreFloatFree (response ∷ cond b [] (event ∷ []))
moved_free true response event free free' = (free, tt)
moved_free false response event free free' = (free, (free', tt))

-- the response to command lines, refused or not
response_free : (b : Bool) (seq : ℕ) (r : Asked) (message : List ℕ) (body : Data) → has_float body ≡ false
    → has_float (cond b (refused_data seq r message) (done_data seq r body)) ≡ false
response_free true seq r message body free = refl
response_free false seq r message body free = done_free seq r body free

evaluated_free : (d next : Debugging) (c c' : Client) (seq : ℕ) (r : Asked) (words : Option (List ℕ)) (told : List Data)
    → Evaluates d c seq r words told next c' → AreFloatFree told
evaluated_free d next c c' seq r None told is = refused_free seq r _ told is.0
evaluated_free d next c c' seq r (Some words) told (text, session, same, is) =
    subst AreFloatFree (sym is)
    (moved_free (nat_eq d.position next.position) (evaluated_data seq r text) (stopped_data (seq + 1) next (codes "goto"))
    (response_free (refuses_from true text) seq r (utf8_lossy (without_feed text)) (result_data text) refl) refl)

goes_free : (d next : Debugging) (seq : ℕ) (r : Asked) (found : Option ℕ) (told : List Data) → GoesTo d seq r found told next → AreFloatFree told
goes_free d next seq r (Some k) told (moved, is) = told_free seq r null (stopped_data (seq + 1) next (codes "breakpoint")) told refl refl is
goes_free d next seq r None told (text, said, is) =
    told_free seq r null (end_data (seq + 1) next text) told refl refl is

stays_free : (first : Bool) (mid next : Debugging) (seq : ℕ) (r : Asked) (found : Option ℕ) (text : List ℕ) (told : List Data)
    → StaysIf first mid seq r found text told next → AreFloatFree told
stays_free true mid next seq r found text told (same, is) = told_free seq r null (saying_data (seq + 1) next (codes "event") _ text) told refl refl is
stays_free false mid next seq r found text told goes = goes_free mid next seq r found told goes

continues_free : (events : Bool) (d next : Debugging) (seq : ℕ) (r : Asked) (found : Option ℕ) (told : List Data)
    → ContinuesTo events d seq r found told next → AreFloatFree told
continues_free false d next seq r found told goes = goes_free d next seq r found told goes
continues_free true d next seq r found told (mid, text, says, stays) =
    stays_free (is_event_first d.position mid.position found) mid next seq r found text told stays

-- whatever is answered
-- what is answered of a line
line_free : (own : Bool) (counting : Counting) (labels : List ProcessLabels) (line : ℕ) → has_float (answered_line own counting labels line) ≡ false
line_free true counting labels line = refl
line_free false counting labels line = refl

pub answers_free : (of : Kind) (d next : Debugging) (c c' : Client) (seq : ℕ) (r : Asked) (told : List Data)
    → AnswersKind of d c seq r told next c' → AreFloatFree told
answers_free kind.Initialize d next c c' seq r told is = shown_free seq r _ told refl is.0
answers_free kind.Launch d next c c' seq r told is = refused_free seq r _ told is.0
answers_free kind.SetBreakpoints d next c c' seq r told is =
    shown_free seq r _ told (listed_free _ (below_free _ (λ i. line_free (is_of_text c.path r) c.counting d.labels (slice_index_or (asked_lines c.counting r) i 0)) (length (asked_lines c.counting r)))) is.0
answers_free kind.SetEvents d next c c' seq r told (is, same, set) = shown_free seq r null told refl is
answers_free kind.Disconnect d next c c' seq r told is = shown_free seq r null told refl is.0
answers_free kind.Terminate d next c c' seq r told is = told_free seq r null _ told refl refl is.0
answers_free kind.Threads d next c c' seq r told is =
    shown_free seq r (threads_data d) told
    (listed_free _ (threads_free d.verified.code.names.processes (state_of d).processes (length (state_of d).processes))) is.0
answers_free kind.StackTrace d next c c' seq r told is =
    let at = place_of (number_of (codes "threadId") r) in
    shown_free seq r (stack_data d c.path c.counting at) told
    (listed_free _ (frames_free (has_arm (slice_get (state_of d).processes at.process) at.arm) _ refl)) is.0
answers_free kind.Scopes d next c c' seq r told is =
    let at = place_of (number_of (codes "frameId") r) in
    shown_free seq r (scopes_at d at) told
    (listed_free _ (scopes_free (has_arm (slice_get (state_of d).processes at.process) at.arm) at.process at.arm)) is.0
answers_free kind.Variables d next c c' seq r told is =
    let reference = number_of (codes "variablesReference") r in
    shown_free seq r (variables_data d reference) told (listed_free _ (variables_free d (reference_or_none reference))) is.0
answers_free kind.Evaluate d next c c' seq r told is = evaluated_free d next c c' seq r (text_of (codes "expression") r) told is
answers_free kind.Unknown d next c c' seq r told is = refused_free seq r _ told is.0
answers_free kind.Continue d next c c' seq r told (found, first, goes, same) = continues_free c.events d next seq r found told goes
answers_free kind.ReverseContinue d next c c' seq r told (stop, stops, moved, same, is) =
    told_free seq r null (stopped_data (seq + 1) next stop.reason) told refl refl is
answers_free kind.Step d next c c' seq r told (inl (within, (stop, stops, moved, same, is))) =
    told_free seq r null (stopped_data (seq + 1) next stop.reason) told refl refl is
answers_free kind.Step d next c c' seq r told (inr (end, (text, said, same, is))) =
    told_free seq r null (saying_data (seq + 1) next (tried_reason d.position next.position) _ text) told refl refl is
answers_free kind.StepBack d next c c' seq r told (stop, stops, moved, same, is) =
    told_free seq r null (stopped_data (seq + 1) next stop.reason) told refl refl is
answers_free kind.Restart d next c c' seq r told (stop, stops, moved, same, is) =
    told_free seq r null (stopped_data (seq + 1) next stop.reason) told refl refl is
answers_free kind.Pause d next c c' seq r told (stop, stops, moved, same, is) =
    told_free seq r null (stopped_data (seq + 1) next stop.reason) told refl refl is
answers_free kind.ConfigurationDone d next c c' seq r told (stop, stops, moved, same, is) =
    told_free seq r null (stopped_data (seq + 1) next stop.reason) told refl refl is
