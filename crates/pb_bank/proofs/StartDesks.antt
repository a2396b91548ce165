-- Desks that no job has joined.
use Rattle.std.proofs.Common.{Vec, Global, ◌≡◌, ◌++◌, ℕ, Bool, false, List, [], ◌∷◌, length, get_or, map, replicate, None}
use Rattle.std.proofs.Common.{refl, sym, ap, ◌∙◌, subst, arith, inl, inr}
use Rattle.std.proofs.lemmas.Bool.{cases_lt}
use Rattle.std.proofs.lemmas.List.{get_or-replicate, get_or_past, length-replicate, length_push}
use Rattle.std.proofs.lemmas.List.Elements.{All-nil}
use Rattle.pb_base.specs.Banker.{BankerState, IsAllowed, processes, resources}
use Rattle.pb_banker.specs.Jobs.{BankValue}
use Rattle.pb_banker.specs.Value.{start_state}
use Rattle.pb_bank.specs.declared.request.Request.{Request}
use Rattle.pb_bank.specs.Desks.{AreUsableNames, DeskValue, IsDesk, IsFirstDesk, IsUsableName, IsQueueOf, NoneIsAllowed, place_of}
use Rattle.pb_bank.proofs.DeskLemmas.{desk_of}
use Rattle.pb_bank.proofs.NamesApart.{names_pushed}
use Rattle.pb_bank.proofs.QueuedWishes.{queue_nothing}
use Rattle.pb_bank.proofs.SlotNames.{all_nameless, slots_start}

none_named : (p : ℕ) → get_or (replicate {A = List ℕ} 64 []) p [] ≡ []
none_named p =
    elim (cases_lt p 64) [
      | inl l ↦ get_or-replicate {A = List ℕ} 64 p [] [] l
      | inr l ↦
          get_or_past (replicate {A = List ℕ} 64 []) p [] (let e = length-replicate {A = List ℕ} 64 [] in omega (arith, e, l))
    ]

no_names : AreUsableNames []
no_names = record {
  each = All-nil IsUsableName;
  apart = λ p q some same.
      (let z : length (get_or {A = List ℕ} [] p []) ≡ 0 = ap (λ (w : List ℕ). length w) (get_or_past {X = List ℕ} [] p [] (omega arith)) in
      absurd (omega (arith, z, some)));
}

-- the desk at the start
pub first_desk : (d : DeskValue) → IsFirstDesk d → IsDesk d
first_desk d first = record {
  jobs = ap (λ (ns : List (List ℕ)). length ns) first.jobs ∙ length-replicate {A = List ℕ} 64 [];
  resources = ap (λ (ns : List (List ℕ)). length ns) first.resources ∙ sym (ap (λ (s : BankerState). resources s) first.state);
  called = subst AreUsableNames (sym first.resources) no_names;
  slots =
      slots_start d.bank [] d.names.processes first.state first.used
      (λ p. ap (λ (ns : List (List ℕ)). get_or ns p []) first.jobs ∙ none_named p);
  wishes = subst (IsQueueOf d.bank) (sym first.wishes) (queue_nothing d.bank);
  waits = subst (NoneIsAllowed d.bank.state) (sym first.wishes) (All-nil (λ (v : Request). ¬ IsAllowed d.bank.state v.job v.bundle));
}

-- a desk with one more resource, before a job has joined
pub desk_added : (b next : BankValue) (jobs old names : List (Vec ℕ Global)) (wishes waiting : List Request) (name : Vec ℕ Global)
    (word : List ℕ) (amount : ℕ) → names ≡ old ++ name ∷ [] → name.items ≡ word → waiting ≡ [] → IsUsableName word
    → place_of (map (λ (n : Vec ℕ Global). n.items) old) word ≡ None → processes b.state ≡ 0
    → next.state ≡ start_state (b.state.capital ++ amount ∷ []) [] → next.used ≡ replicate {A = Bool} 64 false
    → IsDesk (desk_of b jobs (map (λ (n : Vec ℕ Global). n.items) old) wishes)
    → IsDesk (desk_of next jobs (map (λ (n : Vec ℕ Global). n.items) names) waiting)
desk_added b next jobs old names wishes waiting name word amount more is none called new early state used desk =
    let before : List (List ℕ) = map (λ (n : Vec ℕ Global). n.items) old in
    let same_names : map (λ (n : Vec ℕ Global). n.items) names ≡ before ++ word ∷ [] =
    ap (λ (ns : List (Vec ℕ Global)). map (λ (n : Vec ℕ Global). n.items) ns) more
    ∙ (pushed old ∙ ap (λ (w : List ℕ). before ++ w ∷ []) is) in
    record {
      jobs = desk.jobs;
      resources =
          (let a : length (map (λ (n : Vec ℕ Global). n.items) names) ≡ length (before ++ word ∷ []) =
          ap (λ (ns : List (List ℕ)). length ns) same_names in
          let c = length_push before word in
          let e : resources next.state ≡ length (b.state.capital ++ amount ∷ []) = ap (λ (s : BankerState). resources s) state in
          let f = length_push b.state.capital amount in
          let g = desk.resources in
          omega (arith, a, c, e, f, g));
      called = subst AreUsableNames (sym same_names) (names_pushed before word called new desk.called);
      slots =
          slots_start next (b.state.capital ++ amount ∷ []) (map (λ (n : Vec ℕ Global). n.items) jobs) state used
          (all_nameless b (map (λ (n : Vec ℕ Global). n.items) jobs) desk.slots early);
      wishes = subst (IsQueueOf next) (sym none) (queue_nothing next);
      waits = subst (NoneIsAllowed next.state) (sym none) (All-nil (λ (v : Request). ¬ IsAllowed next.state v.job v.bundle));
    }
  where
    pushed : (ns : List (Vec ℕ Global))
        → map (λ (n : Vec ℕ Global). n.items) (ns ++ name ∷ []) ≡ map (λ (n : Vec ℕ Global). n.items) ns ++ name.items ∷ []
    pushed [] = refl
    pushed (n ∷ ns) = ap (λ (ws : List (List ℕ)). n.items ∷ ws) (pushed ns)
