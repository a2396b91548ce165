-- Notices of wishes that are granted.
use Rattle.std.proofs.Common.{◌≡◌, ◌⊎◌, inl, inr, ℕ, ◌+◌, eqb, Bool, true, false, cond, List, [], ◌∷◌, ◌++◌, map, Option, Some, None}
use Rattle.std.proofs.Common.{refl, sym, ap, ◌∙◌, subst}
use Rattle.std.proofs.lemmas.Bool.{eqb-true, eq-eqb}
use Rattle.std.specs.Prelude.{slice_index_or}
use Rattle.pb_base.specs.Lines.{NameTable}
use Rattle.pb_bank.specs.Desks.{DeskValue}
use Rattle.pb_bank.specs.declared.request.Request.{Request}
use Rattle.pb_bank.specs.declared.said.Said.{Said}
use Rattle.pb_bank.specs.declared.said.Said.TheVariants as told
use Rattle.pb_desk.specs.Applies.{AnswersOnce, CarriesOut, Commands, Says, is_done, of_wishes}
use Rattle.pb_desk.specs.Notices.{GrantsAreToldOnce, TellsGrants, TellsNobody, granted_to, notices_to, numbered_from}
use Rattle.pb_desk.specs.Refusals.{refusal_of}
use Rattle.pb_desk.specs.Services.{ServiceValue, granted_text, notice_to, notices_of_all, with_desk}
use Rattle.pb_desk.specs.Sessions.{KeptValue, SessionValue, changed, noted, session_of}
use Rattle.pb_desk.specs.declared.refusal.Refusal.{Refusal}
use Rattle.pb_desk.specs.declared.told.Told.{Told}
use Rattle.pb_desk.specs.declared.told.Told.TheVariants.{Answer}
use Rattle.pb_desk.proofs.LastRequests.{changed_one, session_changed}

id_by : (one : SessionValue) (sessions : List SessionValue) (id : ℕ) (s : SessionValue) → (session_of sessions id ≡ Some s → s.id ≡ id)
    → (b : Bool) → eqb one.id id ≡ b → cond b (Some one) (session_of sessions id) ≡ Some s → s.id ≡ id
id_by one sessions id s later true is at =
    let same : one ≡ s = cc in
    ap (λ (x : SessionValue). x.id) (sym same) ∙ eqb-true one.id id is
id_by one sessions id s later false is at = later at

-- a session that is found has the number
session_id : (sessions : List SessionValue) (id : ℕ) (s : SessionValue) → session_of sessions id ≡ Some s → s.id ≡ id
session_id [] id s at = absurd (cc)
session_id (one ∷ sessions) id s at = id_by one sessions id s (session_id sessions id s) (eqb one.id id) refl at

-- a notice to one session, before others
to_one : (o : Option SessionValue) (text : List ℕ) (id : ℕ) (rest : List Told) → ((s : SessionValue) → o ≡ Some s → eqb s.id id ≡ false)
    → notices_to id (notice_to o text ++ rest) ≡ notices_to id rest
to_one None text id rest other = refl
to_one (Some s) text id rest other =
    ap (λ (b : Bool). cond b (record { number = s.noted + 1; text = text } ∷ notices_to id rest) (notices_to id rest)) (other s refl)

-- if it is to the session itself
own_step : (sessions : List SessionValue) (text : List ℕ) (owner id : ℕ) (s : SessionValue) (rest : List Told) (later : List KeptValue)
    → owner ≡ id → session_of sessions id ≡ Some s → notices_to id rest ≡ later
    → notices_to id (notice_to (session_of sessions owner) text ++ rest) ≡ record { number = s.noted + 1; text = text } ∷ later
own_step sessions text owner id s rest later own at is =
    let who : eqb s.id id ≡ true = eq-eqb s.id id (session_id sessions id s at) in
    ap (λ k. notices_to id (notice_to (session_of sessions k) text ++ rest)) own
    ∙ (ap (λ (o : Option SessionValue). notices_to id (notice_to o text ++ rest)) at
    ∙ (ap (λ (b : Bool). cond b (record { number = s.noted + 1; text = text } ∷ notices_to id rest) (notices_to id rest)) who
    ∙ ap (λ (k : List KeptValue). record { number = s.noted + 1; text = text } ∷ k) is))

grant_step : (owners : List ℕ) (names : NameTable) (sessions : List SessionValue) (w : Request) (said : List Said) (id : ℕ) (s : SessionValue)
    → ((t : SessionValue) → session_of (changed (λ x. noted x (granted_text names w)) sessions (slice_index_or owners w.job 0)) id ≡ Some t
    → notices_to id (notices_of_all owners names (changed (λ x. noted x (granted_text names w)) sessions (slice_index_or owners w.job 0)) said)
    ≡ numbered_from (t.noted + 1) (map (granted_text names) (granted_to owners id said)))
    → session_of sessions id ≡ Some s → (b : Bool) → eqb (slice_index_or owners w.job 0) id ≡ b
    → notices_to id (notices_of_all owners names sessions (told.Granted w ∷ said))
    ≡ numbered_from (s.noted + 1)
    (map (granted_text names) (cond b (w ∷ granted_to owners id said) (granted_to owners id said)))
grant_step owners names sessions w said id s ih at true own =
    let text = granted_text names w in
    let owner = slice_index_or owners w.job 0 in
    let who : owner ≡ id = eqb-true owner id own in
    let next = changed (λ x. noted x text) sessions owner in
    let there : session_of next id ≡ Some (noted s text) =
    session_changed (λ x. noted x text) (λ x. refl) sessions owner id
    ∙ (ap (λ (b : Bool). cond b (changed_one (λ x. noted x text) (session_of sessions id)) (session_of sessions id)) own
    ∙ ap (changed_one (λ x. noted x text)) at) in
    own_step sessions text owner id s (notices_of_all owners names next said) _ who at (ih (noted s text) there)
grant_step owners names sessions w said id s ih at false own =
    let text = granted_text names w in
    let owner = slice_index_or owners w.job 0 in
    let next = changed (λ x. noted x text) sessions owner in
    let there : session_of next id ≡ Some s =
    session_changed (λ x. noted x text) (λ x. refl) sessions owner id
    ∙ (ap (λ (b : Bool). cond b (changed_one (λ x. noted x text) (session_of sessions id)) (session_of sessions id)) own ∙ at) in
    to_one (session_of sessions owner) text id (notices_of_all owners names next said)
    (λ t found. ap (λ k. eqb k id) (session_id sessions owner t found) ∙ own)
    ∙ ih s there

-- a session is told each wish of its jobs that is granted
grants : (owners : List ℕ) (names : NameTable) (sessions : List SessionValue) (said : List Said) (id : ℕ) (s : SessionValue)
    → session_of sessions id ≡ Some s
    → notices_to id (notices_of_all owners names sessions said)
    ≡ numbered_from (s.noted + 1) (map (granted_text names) (granted_to owners id said))
grants owners names sessions [] id s at = refl
grants owners names sessions (told.Granted w ∷ said) id s at =
    grant_step owners names sessions w said id s
    (λ t there. grants owners names (changed (λ x. noted x (granted_text names w)) sessions (slice_index_or owners w.job 0)) said id t there)
    at (eqb (slice_index_or owners w.job 0) id) refl
grants owners names sessions (one ∷ said) id s at = grants owners names sessions said id s at

-- ---- commands

nobody : (v next : ServiceValue) (text : List ℕ) (id number : ℕ) (all : List Told)
    → all ≡ Answer (record { session = id; number = number; text = text }) ∷ [] → next.desk ≡ v.desk → TellsNobody v all next
nobody v next text id number all is same = (same, λ k. ap (notices_to k) is)

carried_tells : (r : Option Refusal) (v next : ServiceValue) (id number : ℕ) (line : List ℕ) (all : List Told)
    → CarriesOut r v id number line all next → TellsNobody v all next ⊎ TellsGrants v line all next
carried_tells (Some refusal) v next id number line all c =
    inl (nobody v next _ id number all c.0 (ap (λ (x : ServiceValue). x.desk) c.1))
carried_tells None v next id number line all c =
    let d = c.1 in
    let with' = with_desk v id d in
    let told = of_wishes line c.0 in
    let desk : next.desk ≡ d = ap (λ (x : ServiceValue). x.desk) c.4 in
    let owners : next.owners ≡ with'.owners = ap (λ (x : ServiceValue). x.owners) c.4 in
    inr (
      c.0,
      subst (λ (e : DeskValue). Says v.desk line c.0 e) (sym desk) c.2,
      λ k s at.
          ap (notices_to k) c.3
          ∙ (grants with'.owners d.names v.sessions told k s at
          ∙ (ap (λ (o : List ℕ). numbered_from (s.noted + 1) (map (granted_text d.names) (granted_to o k told))) (sym owners)
          ∙ ap (λ (e : DeskValue). numbered_from (s.noted + 1) (map (granted_text e.names) (granted_to next.owners k told))) (sym desk))),
    )

once_tells : (b : Bool) (s : SessionValue) (v next : ServiceValue) (id number : ℕ) (by : Bool) (line : List ℕ) (all : List Told)
    → AnswersOnce b s v id number by line all next → TellsNobody v all next ⊎ TellsGrants v line all next
once_tells true s v next id number by line all c = inl (nobody v next _ id number all c.0 (ap (λ (x : ServiceValue). x.desk) c.1))
once_tells false s v next id number by line all c = carried_tells (refusal_of v id by line) v next id number line all c

tells : (o : Option SessionValue) (v next : ServiceValue) (id number : ℕ) (by : Bool) (line : List ℕ) (all : List Told)
    → Commands o v id number by line all next → TellsNobody v all next ⊎ TellsGrants v line all next
tells None v next id number by line all c = inl (nobody v next _ id number all c.0 (ap (λ (x : ServiceValue). x.desk) c.1))
tells (Some s) v next id number by line all c = once_tells (is_done s number) s v next id number by line all c

pub grants_are_told_once : GrantsAreToldOnce
grants_are_told_once v next id number by line all c = tells (session_of v.sessions id) v next id number by line all c
