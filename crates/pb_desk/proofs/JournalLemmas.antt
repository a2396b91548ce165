-- Laws of journals.
use Rattle.std.proofs.Common.{◌≡◌, ℕ, ◌<◌, ◌≤◌, eqb, ltb, not, Bool, true, false, cond, ◌&&◌}
use Rattle.std.proofs.Common.{List, [], ◌∷◌, ◌++◌, Option, Some, None, refl, sym, ap, ◌∙◌, subst, arith, append_assoc}
use Rattle.std.proofs.lemmas.Bool.{eqb-true, le-ltb, ltb-true, ltb-false, ne_eqb, eq-eqb}
use Rattle.std.specs.Prelude.{codes, length, slice_index_or}
use Rattle.std.specs.Str.{bytes_eq}
use Rattle.pb_base.specs.Lines.{NameTable}
use Rattle.pb_bank.specs.declared.said.Said.{Said}
use Rattle.pb_bank.specs.declared.said.Said.TheVariants as told
use Rattle.pb_desk.specs.Applies.{EntryValue, Begin, End, Command, Declare, Applies, AnswersOnce, BeginsSession, CarriesOut, Commands, Declares, Ends}
use Rattle.pb_desk.specs.Applies.{Leaves, LeavesIf, LeavesSlot, nothing, one_more, is_done, of_wishes}
use Rattle.pb_desk.specs.Journals.{JournalInTwo, Runs, JobsOfOthersStay, JournalsGoOn, JournalsPart, RequestsAreCarriedOutOnce}
use Rattle.pb_desk.specs.Refusals.{is_another, is_reserved, owner_of, refusal_of, subject_of, verb_of}
use Rattle.pb_desk.specs.Services.{ServiceValue, owner_at, after_all, after_each, after_one, granted_text, with_answer, with_desk}
use Rattle.pb_desk.specs.Sessions.{SessionValue, answered, just_begun, noted, sessions_but, session_of, with_one}
use Rattle.pb_desk.specs.declared.refusal.Refusal.{Refusal}
use Rattle.pb_desk.specs.declared.refusal.Refusal.TheVariants.{OfAnother, OfOperators, Reserved}
use Rattle.pb_desk.specs.declared.told.Told.{Told}
use Rattle.pb_desk.proofs.LastRequests.{last_changed, last_more, last_of, last_others, mapped, or_new}

-- ---- journals in two

pub journals_go_on : JournalsGoOn
journals_go_on v mid next [] later all more runs after =
    subst (λ (m : ServiceValue). Runs m later (all ++ more) next) runs.1
    (subst (λ (a : List Told). Runs mid later (a ++ more) next) (sym runs.0) after)
journals_go_on v mid next (entry ∷ entries) later all more runs after = (
  runs.0,
  runs.1 ++ more,
  runs.2,
  runs.3,
  journals_go_on runs.2 mid next entries later runs.1 more runs.4 after,
  ap (λ (a : List Told). a ++ more) runs.5 ∙ append_assoc runs.0 runs.1 more,
)

in_two : (v next : ServiceValue) (entries later : List EntryValue) (all : List Told) → Runs v (entries ++ later) all next
    → JournalInTwo v entries later all next
in_two v next [] later all runs = ([], all, v, (refl, refl), runs, refl)
in_two v next (entry ∷ entries) later all runs =
    let r = in_two runs.2 next entries later runs.1 runs.4 in (
      runs.0 ++ r.0,
      r.1,
      r.2,
      (runs.0, r.0, runs.2, runs.3, r.3, refl),
      r.4,
      runs.5 ∙ (ap (λ (x : List Told). runs.0 ++ x) r.5 ∙ sym (append_assoc runs.0 r.0 r.1)),
    )

pub journals_part : JournalsPart
journals_part v next entries later all runs = in_two v next entries later all runs

-- ---- last requests go on

abbrev last_in : ServiceValue → ℕ → Option ℕ
last_in v id = last_of (session_of v.sessions id)

-- a session that is there was there before, with no later request; or its number is new
abbrev WasThere : Option ℕ → (last newest newest' id : ℕ) → Type 0
WasThere None last newest newest' id = (newest < id) × (id ≤ newest')
WasThere (Some n) last newest newest' id = n ≤ last

record Grows (v next : ServiceValue) : Type 0 where
  newest : v.newest ≤ next.newest
  each : (id last : ℕ) → last_in next id ≡ Some last → WasThere (last_in v id) last v.newest next.newest id

-- no session has a number that is higher than the highest
abbrev Bounded : ServiceValue → Type 0
Bounded v = (id last : ℕ) → last_in v id ≡ Some last → id ≤ v.newest

stays_by : (v next : ServiceValue) → next.newest ≡ v.newest → ((id : ℕ) → last_in next id ≡ last_in v id) → Grows v next
stays_by v next newest same = record {
  newest = omega arith;
  each = λ id last is.
      subst (λ (o : Option ℕ). WasThere o last v.newest next.newest id) (sym is ∙ same id) (omega arith);
}

grows_same : (v next : ServiceValue) → next ≡ v → Grows v next
grows_same v next is =
    stays_by v next (ap (λ (s : ServiceValue). s.newest) is) (λ id. ap (λ (s : ServiceValue). last_in s id) is)

bounded_of : (o : Option ℕ) (last n m id : ℕ) → ((k : ℕ) → o ≡ Some k → id ≤ n) → n ≤ m → WasThere o last n m id → id ≤ m
bounded_of None last n m id bound le was = was.1
bounded_of (Some k) last n m id bound le was = let b = bound k refl in omega arith

bounded_next : (v next : ServiceValue) → Bounded v → Grows v next → Bounded next
bounded_next v next bound grows id last is =
    bounded_of (last_in v id) last v.newest next.newest id (λ k at. bound id k at) grows.newest (grows.each id last is)

was_two : (o m : Option ℕ) (last a b c id : ℕ) → ((k : ℕ) → o ≡ Some k → id ≤ a) → a ≤ b → b ≤ c
    → ((k : ℕ) → m ≡ Some k → WasThere o k a b id) → WasThere m last b c id → WasThere o last a c id
was_two None None last a b c id bound ab bc first second = (omega arith, second.1)
was_two None (Some k) last a b c id bound ab bc first second = let f = first k refl in (f.0, omega arith)
was_two (Some n) None last a b c id bound ab bc first second = let le = bound n refl in absurd (omega arith)
was_two (Some n) (Some k) last a b c id bound ab bc first second = let f = first k refl in omega arith

grows_two : (v mid next : ServiceValue) → Bounded v → Grows v mid → Grows mid next → Grows v next
grows_two v mid next bound one two =
    let a = one.newest in
    let b = two.newest in
    record {
      newest = omega arith;
      each = λ id last is.
          was_two (last_in v id) (last_in mid id) last v.newest mid.newest next.newest id (λ k at. bound id k at) a b
          (λ k at. one.each id k at) (two.each id last is);
    }

-- ---- what is said changes no last request

own : (b : Bool) (o : Option ℕ) → cond b (mapped (λ n. n) o) o ≡ o
own true None = refl
own true (Some n) = refl
own false o = refl

one_last : (owners : List ℕ) (names : NameTable) (sessions : List SessionValue) (one : Said) (id : ℕ)
    → last_of (session_of (after_one owners names sessions one) id) ≡ last_of (session_of sessions id)
one_last owners names sessions (told.Granted w) id =
    let owner = slice_index_or owners w.job 0 in
    last_changed (λ s. noted s (granted_text names w)) (λ n. n) (λ s. refl) (λ s. refl) sessions owner id
    ∙ own (eqb owner id) (last_of (session_of sessions id))
one_last owners names sessions one id = refl

each_last : (owners : List ℕ) (names : NameTable) (sessions : List SessionValue) (said : List Said) (id : ℕ)
    → last_of (session_of (after_each owners names sessions said) id) ≡ last_of (session_of sessions id)
each_last owners names sessions [] id = refl
each_last owners names sessions (one ∷ said) id =
    each_last owners names (after_one owners names sessions one) said id ∙ one_last owners names sessions one id

all_last : (v : ServiceValue) (said : List Said) (id : ℕ) → last_in (after_all v said) id ≡ last_in v id
all_last v said id = each_last v.owners v.desk.names v.sessions said id

-- ---- an answer

-- the last request, after one with this number
abbrev next_last : (number n : ℕ) → ℕ
next_last number n = cond (eqb number 0) n number

abbrev kept_as : SessionValue → (number : ℕ) → (text : List ℕ) → SessionValue
kept_as s number text =
    record s { last = number; answers = with_one s.answers (record { number = number; text = text }) }

either_id : (b : Bool) (s t : SessionValue) → t.id ≡ s.id → (cond b s t).id ≡ s.id
either_id true s t e = refl
either_id false s t e = e

either_last : (b : Bool) (s t : SessionValue) (n : ℕ) → t.last ≡ n → (cond b s t).last ≡ cond b s.last n
either_last true s t n e = refl
either_last false s t n e = e

answer_last : (v : ServiceValue) (id0 number : ℕ) (text : List ℕ) (id : ℕ)
    → last_of (session_of (with_answer v id0 number text).sessions id)
    ≡ cond (eqb id0 id) (mapped (next_last number) (last_in v id)) (last_in v id)
answer_last v id0 number text id =
    last_changed (λ s. answered s number text) (next_last number)
    (λ s. either_id (eqb number 0) s (kept_as s number text) refl) (λ s. either_last (eqb number 0) s (kept_as s number text) number refl)
    v.sessions id0 id

grow_case : (b : Bool) (o : Option ℕ) (to : ℕ → ℕ) (last a c i : ℕ) → ((k : ℕ) → b ≡ true → o ≡ Some k → k ≤ to k)
    → cond b (mapped to o) o ≡ Some last → WasThere o last a c i
grow_case true None to last a c i le is = absurd (cc)
grow_case true (Some k) to last a c i le is = let x = le k refl refl in let y : to k ≡ last = cc in omega arith
grow_case false None to last a c i le is = absurd (cc)
grow_case false (Some k) to last a c i le is = let y : k ≡ last = cc in omega arith

answer_grows : (v m next : ServiceValue) (id number : ℕ) (text : List ℕ) (n : ℕ) → last_in v id ≡ Some n → n ≤ next_last number n
    → m.newest ≡ v.newest → ((i : ℕ) → last_in m i ≡ last_in v i) → next ≡ with_answer m id number text → Grows v next
answer_grows v m next id number text n here le newest same is = record {
  newest = let e = ap (λ (s : ServiceValue). s.newest) is ∙ newest in omega arith;
  each = λ i last at.
      let o = last_in v i in
      let all : last_in next i ≡ cond (eqb id i) (mapped (next_last number) (last_in m i)) (last_in m i) =
      ap (λ (s : ServiceValue). last_in s i) is ∙ answer_last m id number text i in
      let of : cond (eqb id i) (mapped (next_last number) o) o ≡ Some last =
      ap (λ (x : Option ℕ). cond (eqb id i) (mapped (next_last number) x) x) (sym (same i)) ∙ (sym all ∙ at) in
      grow_case (eqb id i) o (next_last number) last v.newest next.newest i
      (λ k own there.
      let who : id ≡ i = eqb-true id i own in
      let both : Some n ≡ Some k = sym here ∙ (ap (last_in v) who ∙ there) in
      let n-is : n ≡ k = cc in
      subst (λ x. x ≤ next_last number x) n-is le)
      of;
}

le_case : (a b : Bool) (n number : ℕ) → b ≡ ltb n number → not a && not b ≡ false → n ≤ cond a n number
le_case true b n number is e = omega arith
le_case false true n number is e = let lt = ltb-true n number (sym is) in omega arith
le_case false false n number is e = absurd (cc)

carried_grows : (r : Option Refusal) (v next : ServiceValue) (id number : ℕ) (line : List ℕ) (all : List Told) (n : ℕ) → last_in v id ≡ Some n
    → n ≤ next_last number n → CarriesOut r v id number line all next → Grows v next
carried_grows (Some refusal) v next id number line all n here le c =
    answer_grows v v next id number _ n here le refl (λ i. refl) c.1
carried_grows None v next id number line all n here le c =
    let told = of_wishes line c.0 in
    let with' = with_desk v id c.1 in
    answer_grows v (after_all with' told) next id number _ n here le refl (λ i. all_last with' told i) c.4

once_grows : (b : Bool) (s : SessionValue) (v next : ServiceValue) (id number : ℕ) (by : Bool) (line : List ℕ) (all : List Told)
    → is_done s number ≡ b → session_of v.sessions id ≡ Some s → AnswersOnce b s v id number by line all next → Grows v next
once_grows true s v next id number by line all done here c = grows_same v next c.1
once_grows false s v next id number by line all done here c =
    carried_grows (refusal_of v id by line) v next id number line all s.last (ap last_of here)
    (le_case (eqb number 0) (ltb s.last number) s.last number refl done) c

commands_grow : (o : Option SessionValue) (v next : ServiceValue) (id number : ℕ) (by : Bool) (line : List ℕ) (all : List Told)
    → session_of v.sessions id ≡ o → Commands o v id number by line all next → Grows v next
commands_grow None v next id number by line all here c = grows_same v next c.1
commands_grow (Some s) v next id number by line all here c = once_grows (is_done s number) s v next id number by line all refl here c

-- ---- begin and end

begin_case : (o : Option ℕ) (b : Bool) (last a c i : ℕ) → (b ≡ true → (a < i) × (i ≤ c)) → or_new o b 0 ≡ Some last → WasThere o last a c i
begin_case None true last a c i new is = new refl
begin_case None false last a c i new is = absurd (cc)
begin_case (Some k) b last a c i new is = let y : k ≡ last = cc in omega arith

begins_grow : (b : Bool) (v next : ServiceValue) (id : ℕ) (key : List ℕ) (lease : ℕ) (all : List Told) → ltb v.newest id ≡ b
    → BeginsSession b v id key lease all next → Grows v next
begins_grow false v next id key lease all test c = grows_same v next c.1
begins_grow true v next id key lease all test c =
    let lt = ltb-true v.newest id test in
    let newest : next.newest ≡ id = ap (λ (s : ServiceValue). s.newest) c.1 in
    record {
      newest = omega arith;
      each = λ i last at.
          let of : or_new (last_in v i) (eqb id i) 0 ≡ Some last =
          sym (ap (λ (s : ServiceValue). last_in s i) c.1 ∙ last_more v.sessions (just_begun id key lease) i) ∙ at in
          begin_case (last_in v i) (eqb id i) last v.newest next.newest i
          (λ own. let who : id ≡ i = eqb-true id i own in (omega arith, omega arith)) of;
    }

gone_case : (b : Bool) (o : Option ℕ) (last a c i : ℕ) → cond b None o ≡ Some last → WasThere o last a c i
gone_case true o last a c i is = absurd (cc)
gone_case false None last a c i is = absurd (cc)
gone_case false (Some k) last a c i is = let y : k ≡ last = cc in omega arith

gone_grows : (v : ServiceValue) (id : ℕ) → Grows v (record v { sessions = sessions_but v.sessions id })
gone_grows v id = record {
  newest = omega arith;
  each = λ i last at.
      gone_case (eqb id i) (last_in v i) last v.newest v.newest i (sym (last_others v.sessions id i) ∙ at);
}

slot_grows : (v : ServiceValue) (p : ℕ) (all : List Told) (next : ServiceValue) → LeavesSlot v p all next → Grows v next
slot_grows v p all next c =
    let with' = with_desk v 0 c.1 in
    stays_by v next (ap (λ (s : ServiceValue). s.newest) c.4)
    (λ id. ap (λ (s : ServiceValue). last_in s id) c.4 ∙ all_last with' c.0 id)

if_grows : (b : Bool) (v : ServiceValue) (p : ℕ) (all : List Told) (next : ServiceValue) → LeavesIf b v p all next → Grows v next
if_grows true v p all next c = slot_grows v p all next c
if_grows false v p all next c = grows_same v next c.1

leaves_grow : (id : ℕ) (v : ServiceValue) → Bounded v → (n : ℕ) (all : List Told) (next : ServiceValue) → Leaves id v n all next → Grows v next
leaves_grow id v bound n all next nothing = grows_same v v refl
leaves_grow id v bound n all next (one_more m first more mid end before leaving) =
    grows_two v mid end bound (leaves_grow id v bound m first mid before) (if_grows (eqb (owner_at mid m) id) mid m more end leaving)

ends_grow : (o : Option SessionValue) (v next : ServiceValue) (id : ℕ) (all : List Told) → Bounded v → Ends o v id all next → Grows v next
ends_grow None v next id all bound c = grows_same v next c.1
ends_grow (Some s) v next id all bound c =
    let gone : ServiceValue = record v { sessions = sessions_but v.sessions id } in
    let first = gone_grows v id in
    grows_two v gone next bound first (leaves_grow id gone (bounded_next v gone bound first) (length v.owners) c.0 next c.1)

declares_grow : (b : Bool) (v next : ServiceValue) (line : List ℕ) (all : List Told) → Declares b v line all next → Grows v next
declares_grow false v next line all c = grows_same v next c.1
declares_grow true v next line all c =
    stays_by v next (ap (λ (s : ServiceValue). s.newest) c.4) (λ id. ap (λ (s : ServiceValue). last_in s id) c.4)

-- ---- entries and journals

applies_grow : (v : ServiceValue) (entry : EntryValue) (all : List Told) (next : ServiceValue) → Bounded v → Applies v entry all next
    → Grows v next
applies_grow v (Begin id key lease) all next bound c = begins_grow (ltb v.newest id) v next id key lease all refl c
applies_grow v (End id) all next bound c = ends_grow (session_of v.sessions id) v next id all bound c
applies_grow v (Command id number by line) all next bound c =
    commands_grow (session_of v.sessions id) v next id number by line all refl c
applies_grow v (Declare line) all next bound c = declares_grow (bytes_eq (verb_of line) (codes "resource")) v next line all c

runs_grow : (v next : ServiceValue) (entries : List EntryValue) (all : List Told) → Bounded v → Runs v entries all next → Grows v next
runs_grow v next [] all bound runs = grows_same v next runs.1
runs_grow v next (entry ∷ entries) all bound runs =
    let one = applies_grow v entry runs.0 runs.2 bound runs.3 in
    grows_two v runs.2 next bound one (runs_grow runs.2 next entries runs.1 (bounded_next v runs.2 bound one) runs.4)

-- ---- carried out once

at_self : (b : Bool) (o : Option ℕ) (to : ℕ → ℕ) (n : ℕ) → b ≡ true → o ≡ Some n → cond b (mapped to o) o ≡ Some (to n)
at_self b o to n own is = ap (λ (x : Bool). cond x (mapped to o) o) own ∙ ap (mapped to) is

carried_last : (r : Option Refusal) (v next : ServiceValue) (id number : ℕ) (line : List ℕ) (all : List Told) (n : ℕ) → last_in v id ≡ Some n
    → CarriesOut r v id number line all next → last_in next id ≡ Some (next_last number n)
carried_last (Some refusal) v next id number line all n here c =
    ap (λ (s : ServiceValue). last_in s id) c.1
    ∙ (answer_last v id number _ id ∙ at_self (eqb id id) (last_in v id) (next_last number) n (eq-eqb id id refl) here)
carried_last None v next id number line all n here c =
    let with' = with_desk v id c.1 in
    let told = of_wishes line c.0 in
    let m = after_all with' told in
    ap (λ (s : ServiceValue). last_in s id) c.4
    ∙ (answer_last m id number _ id
    ∙ at_self (eqb id id) (last_in m id) (next_last number) n (eq-eqb id id refl) (all_last with' told id ∙ here))

is_not_zero : (number : ℕ) → 0 < number → eqb number 0 ≡ false
is_not_zero number lt = ne_eqb number 0 (λ e. omega (arith, e))

done_case : (a b : Bool) (last number : ℕ) → b ≡ ltb last number → not a && not b ≡ true → number ≤ last
done_case true b last number is e = absurd (cc)
done_case false true last number is e = absurd (cc)
done_case false false last number is e = ltb-false last number (sym is)

-- after a request its number is the last one, or a later one is
record Carried (next : ServiceValue) (id number : ℕ) : Type 0 where
  last : ℕ
  is : last_in next id ≡ Some last
  most : number ≤ last

carried_by : (b : Bool) (s : SessionValue) (v next : ServiceValue) (id number : ℕ) (by : Bool) (line : List ℕ) (all : List Told)
    → is_done s number ≡ b → session_of v.sessions id ≡ Some s → 0 < number → AnswersOnce b s v id number by line all next
    → Carried next id number
carried_by true s v next id number by line all done here some c = record {
  last = s.last;
  is = ap (λ (x : ServiceValue). last_in x id) c.1 ∙ ap last_of here;
  most = done_case (eqb number 0) (ltb s.last number) s.last number refl done;
}
carried_by false s v next id number by line all done here some c = record {
  last = number;
  is =
      carried_last (refusal_of v id by line) v next id number line all s.last (ap last_of here) c
      ∙ ap (λ (x : Bool). Some (cond x s.last number)) (is_not_zero number some);
  most = omega arith;
}

done_again : (last number : ℕ) → 0 < number → number ≤ last → not (eqb number 0) && not (ltb last number) ≡ true
done_again last number some le =
    ap (λ (x : Bool). not x && not (ltb last number)) (is_not_zero number some) ∙ ap (λ (x : Bool). not false && not x) (le-ltb last number le)

again_by : (o : Option SessionValue) (v next : ServiceValue) (id number : ℕ) (by : Bool) (line : List ℕ) (all : List Told) (k : ℕ)
    → session_of v.sessions id ≡ o → 0 < number → number ≤ k → ((last : ℕ) → last_in v id ≡ Some last → k ≤ last)
    → Commands o v id number by line all next → next ≡ v
again_by None v next id number by line all k here some le most c = c.1
again_by (Some s) v next id number by line all k here some le most c =
    let m = most s.last (ap last_of here) in
    let done : is_done s number ≡ true = done_again s.last number some (omega arith) in
    let once : AnswersOnce true s v id number by line all next =
    subst (λ (x : Bool). AnswersOnce x s v id number by line all next) done c in
    once.1

pub carried_out_once : RequestsAreCarriedOutOnce
carried_out_once start v next later after before entries told first more again s id number by by' line line' empty runs here some applies between last =
    let none : Bounded start = λ i k at.
    absurd (let e : None ≡ Some k = sym (ap (λ (ss : List SessionValue). last_of (session_of ss i)) empty.sessions) ∙ at in cc) in
    let bound : Bounded v = bounded_next start v none (runs_grow start v before told none runs) in
    let bound' : Bounded next = bounded_next v next bound (applies_grow v (Command id number by line) first next bound applies) in
    let once : AnswersOnce (is_done s number) s v id number by line first next =
    subst (λ (o : Option SessionValue). Commands o v id number by line first next) here applies in
    let carried = carried_by (is_done s number) s v next id number by line first refl here some once in
    let grows = runs_grow next later entries more bound' between in
    again_by (session_of later.sessions id) later after id number by' line' again carried.last refl some carried.most
    (λ k at. subst (λ (o : Option ℕ). WasThere o k next.newest later.newest id) carried.is (grows.each id k at)) last

-- ---- jobs of others

refused_by : (a b c by reserved : Bool) → b ≡ false → c ≡ false
    → (x : Refusal) × (cond a (Some OfOperators) (
    cond b (cond by None (Some OfOperators)) (
    cond c (cond reserved (Some Reserved) None) (
    cond true (Some OfAnother) None))) ≡ Some x)
refused_by true b c by reserved eb ec = (OfOperators, refl)
refused_by false true c by reserved eb ec = absurd (cc)
refused_by false false true by reserved eb ec = absurd (cc)
refused_by false false false by reserved eb ec = (OfAnother, refl)

refused : (v : ServiceValue) (id : ℕ) (by : Bool) (line : List ℕ) → bytes_eq (verb_of line) (codes "job") ≡ false
    → bytes_eq (verb_of line) (codes "capital") ≡ false → is_another (owner_of v (subject_of line)) id ≡ true
    → (x : Refusal) × (refusal_of v id by line ≡ Some x)
refused v id by line job capital another =
    let r = refused_by (bytes_eq (verb_of line) (codes "resource")) (bytes_eq (verb_of line) (codes "capital"))
    (bytes_eq (verb_of line) (codes "job")) by (is_reserved (subject_of line)) capital job in (
      r.0,
      ap (λ (t : Bool). cond (bytes_eq (verb_of line) (codes "resource")) (Some OfOperators) (
          cond (bytes_eq (verb_of line) (codes "capital")) (cond by None (Some OfOperators)) (
          cond (bytes_eq (verb_of line) (codes "job")) (cond (is_reserved (subject_of line)) (Some Reserved) None) (
          cond t (Some OfAnother) None)))) another ∙ r.1,
    )

same_by : (b : Bool) (s : SessionValue) (v next : ServiceValue) (id number : ℕ) (by : Bool) (line : List ℕ) (all : List Told) (x : Refusal)
    → refusal_of v id by line ≡ Some x → AnswersOnce b s v id number by line all next → (next.desk ≡ v.desk) × (next.owners ≡ v.owners)
same_by true s v next id number by line all x is c = (ap (λ (y : ServiceValue). y.desk) c.1, ap (λ (y : ServiceValue). y.owners) c.1)
same_by false s v next id number by line all x is c =
    let d : CarriesOut (Some x) v id number line all next = subst (λ (r : Option Refusal). CarriesOut r v id number line all next) is c in
    (ap (λ (y : ServiceValue). y.desk) d.1, ap (λ (y : ServiceValue). y.owners) d.1)

same_jobs : (o : Option SessionValue) (v next : ServiceValue) (id number : ℕ) (by : Bool) (line : List ℕ) (all : List Told) (x : Refusal)
    → refusal_of v id by line ≡ Some x → Commands o v id number by line all next → (next.desk ≡ v.desk) × (next.owners ≡ v.owners)
same_jobs None v next id number by line all x is c = (ap (λ (y : ServiceValue). y.desk) c.1, ap (λ (y : ServiceValue). y.owners) c.1)
same_jobs (Some s) v next id number by line all x is c = same_by (is_done s number) s v next id number by line all x is c

pub jobs_of_others_stay : JobsOfOthersStay
jobs_of_others_stay v next id number by line all job capital another c =
    let r = refused v id by line job capital another in
    same_jobs (session_of v.sessions id) v next id number by line all r.0 r.1 c
