-- What a command comes to, from the steps of carrying it out.
use Rattle.std.proofs.Common.{Vec, Global, ◌≡◌, ℕ, ◌++◌, List, [], ◌∷◌, map, length, None, refl, sym, ap, ◌∙◌, subst, append_assoc}
use Rattle.std.proofs.lemmas.List.{length-map}
use Rattle.std.specs.Prelude.{codes}
use Rattle.pb_base.specs.Lines.{NameTable, name_of, names_view}
use Rattle.pb_base.specs.declared.names.Names.{Names}
use Rattle.pb_bank.specs.Desks.{DeskValue}
use Rattle.pb_bank.specs.declared.said.Said.{Said}
use Rattle.pb_desk.specs.Applies.{CarriesOut, LeavesSlot, Says, of_wishes}
use Rattle.pb_desk.specs.Services.{ServiceValue, after_each, all_notices, answer_text, answer_to, notices_of_all, owners_below, with_desk}
use Rattle.pb_desk.specs.Sessions.{SessionValue, answered, changed}
use Rattle.pb_desk.specs.declared.told.Told.{Told}

-- the names of the slots, in a table of bytes
pub rows_are : (names : Names) (table : NameTable) (rows : List (Vec ℕ Global)) → names_view names ≡ table → rows ≡ names.processes.items
    → map (λ (n : Vec ℕ Global). n.items) rows ≡ table.processes
rows_are names table rows is are =
    ap (λ (rs : List (Vec ℕ Global)). map (λ (n : Vec ℕ Global). n.items) rs) are ∙ ap (λ (t : NameTable). t.processes) is

pub owners_are : (all rows' : List (List ℕ)) (rows : List (Vec ℕ Global)) (owners old old' : List ℕ) (id : ℕ)
    → owners ≡ owners_below (map (λ (n : Vec ℕ Global). n.items) rows) old' id (length rows)
    → map (λ (n : Vec ℕ Global). n.items) rows ≡ all → old' ≡ old → owners ≡ owners_below all old id (length all)
owners_are all rows' rows owners old old' id is names same =
    let size : length rows ≡ length all =
    sym (length-map rows (λ (n : Vec ℕ Global). n.items)) ∙ ap (λ (l : List (List ℕ)). length l) names in
    is ∙ (ap (λ (ns : List (List ℕ)). owners_below ns old' id (length rows)) names
    ∙ (ap (λ (n : ℕ). owners_below all old' id n) size ∙ ap (λ (o : List ℕ). owners_below all o id (length all)) same))

pub carried : (v : ServiceValue) (id number : ℕ) (line : List ℕ) (said : List Said) (d : DeskValue) (text owners : List ℕ)
    (first second : List SessionValue) (out out1 out2 : List Told) → Says v.desk line said d → text ≡ answer_text d line said
    → owners ≡ owners_below d.names.processes v.owners id (length d.names.processes)
    → out1 ≡ out ++ answer_to id number text ∷ []
    → first ≡ after_each owners d.names v.sessions (of_wishes line said)
    → out2 ≡ out1 ++ notices_of_all owners d.names v.sessions (of_wishes line said)
    → second ≡ changed (λ s. answered s number text) first id
    → (all : List Told) × CarriesOut None v id number line all (record { desk = d; owners = owners; sessions = second; newest = v.newest })
    × (out2 ≡ out ++ all)
carried v id number line said d text owners first second out out1 out2 says is owned answer after notices kept =
    let told = of_wishes line said in
    let whole = answer_text d line said in
    let all-owners = owners_below d.names.processes v.owners id (length d.names.processes) in
    let sessions : second ≡ changed (λ s. answered s number whole) (after_each all-owners d.names v.sessions told) id =
    kept ∙ (ap (λ (t : List ℕ). changed (λ s. answered s number t) first id) is
    ∙ ap (λ (ss : List SessionValue). changed (λ s. answered s number whole) ss id)
    (after ∙ ap (λ (o : List ℕ). after_each o d.names v.sessions told) owned)) in
    let joined : out2 ≡ out ++ (answer_to id number text ∷ notices_of_all owners d.names v.sessions told) =
    notices ∙ (ap (λ (o : List Told). o ++ notices_of_all owners d.names v.sessions told) answer
    ∙ append_assoc out (answer_to id number text ∷ []) (notices_of_all owners d.names v.sessions told)) in (
      answer_to id number whole ∷ all_notices (with_desk v id d) told,
      (
        said,
        d,
        says,
        refl,
        ap (λ (o : List ℕ). record { desk = d; owners = o; sessions = second; newest = v.newest }) owned
            ∙ ap (λ (ss : List SessionValue). record { desk = d; owners = all-owners; sessions = ss; newest = v.newest }) sessions,
      ),
      joined
          ∙ (ap (λ (t : List ℕ). out ++ (answer_to id number t ∷ notices_of_all owners d.names v.sessions told)) is
          ∙ ap (λ (o : List ℕ). out ++ (answer_to id number whole ∷ notices_of_all o d.names v.sessions told)) owned),
    )

-- ---- a job that leaves

pub left_slot : (v : ServiceValue) (p : ℕ) (line : List ℕ) (said : List Said) (d : DeskValue) (owners : List ℕ) (first : List SessionValue)
    (out out1 : List Told) → line ≡ codes "leave " ++ name_of v.desk.names.processes p → Says v.desk line said d
    → owners ≡ owners_below d.names.processes v.owners 0 (length d.names.processes)
    → first ≡ after_each owners d.names v.sessions said
    → out1 ≡ out ++ notices_of_all owners d.names v.sessions said
    → (all : List Told) × LeavesSlot v p all (record { desk = d; owners = owners; sessions = first; newest = v.newest })
    × (out1 ≡ out ++ all)
left_slot v p line said d owners first out out1 is says owned after notices =
    let all-owners = owners_below d.names.processes v.owners 0 (length d.names.processes) in (
      all_notices (with_desk v 0 d) said,
      (
        said,
        d,
        subst (λ (l : List ℕ). Says v.desk l said d) is says,
        refl,
        ap (λ (o : List ℕ). record { desk = d; owners = o; sessions = first; newest = v.newest }) owned
            ∙ ap (λ (ss : List SessionValue). record { desk = d; owners = all-owners; sessions = ss; newest = v.newest })
            (after ∙ ap (λ (o : List ℕ). after_each o d.names v.sessions said) owned),
      ),
      notices ∙ ap (λ (o : List ℕ). out ++ notices_of_all o d.names v.sessions said) owned,
    )
