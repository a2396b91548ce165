-- Texts that are looked at one after another.
use Rattle.std.proofs.Common.{◌≡◌, ◌≤◌, ◌+◌, ◌-◌, ◌++◌, ℕ, Bool, List, [], ◌∷◌, length, subst, arith}
use Rattle.pb_command_io.specs.Parts.{IsMarkAt, IsCutAt}
use Rattle.pb_findings.specs.Findings.{IsFound}
use Rattle.pb_findings.specs.Reports.{AreFound, AreAllFound, all, more}
use Rattle.pb_findings.specs.declared.said.Found.{Found}
use Rattle.pb_findings.proofs.FileLemmas.{cut_shorter}

-- the texts of a file that were looked at so far
pub record IsOnFile (warn : Bool) (file : List ℕ) (count : ℕ) (left : List ℕ) (said : List Found) : Type 0 where
  pub are : AreFound warn file count left said
  pub few : count + length left ≤ length file

module _ (warn : Bool) (file : List ℕ) (count : ℕ) (left : List ℕ) (said : List Found) (on : IsOnFile warn file count left said) where
  pub one_more : (part rest : List ℕ) (one : Found) → IsCutAt left part rest
      → IsFound warn file (count + 1) (length file - length left) part one → IsOnFile warn file (count + 1) rest (said ++ one ∷ [])
  one_more part rest one cut is =
      let shorter = cut_shorter left part rest cut in
      let few = on.few in record { are = more count left part rest said one on.are cut is; few = omega (arith, shorter, few) }

  pub last_one : (part : List ℕ) (one : Found) → part ≡ left → ((at : ℕ) → ¬ IsMarkAt left at)
      → IsFound warn file (count + 1) (length file - length left) part one → AreAllFound warn file (said ++ one ∷ [])
  last_one part one same none is =
      all count left said one on.are none
      (subst (λ (p : List ℕ). IsFound warn file (count + 1) (length file - length left) p one) same is)
