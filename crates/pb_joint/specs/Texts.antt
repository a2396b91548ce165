-- Texts that are read as one program, and the first of them that cannot be.
use Rattle.std.specs.Prelude.{◌≡◌, ◌⊎◌, ℕ, ◌+◌, nat_lt, Bool, cond, List, [], ◌∷◌, ◌++◌, Option, Some, None, length, map, MatchOption}
use Rattle.std.specs.Prelude.{slice_get, take}
use Rattle.std.specs.List.{AllZip}
use Rattle.pb_base.specs.Steppers.{Table}
use Rattle.pb_tree.specs.Syntax.{ProcessSyntax, ProgramSyntax}
use Rattle.pb_names.specs.Faults.{IsFault}
use Rattle.pb_names.specs.Program.{Name, Program}
use Rattle.pb_names.specs.Resolves.{Resolves}
use Rattle.pb_names.specs.declared.fault.NameFault.{NameFault}
use Rattle.pb_codegen.specs.Compiled.{IsBeforeClaims, IsRefused, of_names}
use Rattle.pb_codegen.specs.Numbered.{Spells}
use Rattle.pb_codegen.specs.declared.fault.CompileFault.{CompileFault}
use Rattle.pb_codegen.specs.declared.fault.CompileFault.TheVariants.{Memory}
use Rattle.pb_joint.specs.Joined.{AreJoined, IsJointProgram}
use Rattle.pb_joint.specs.declared.texts.TextFault.{TextFault}

-- the text is a program by itself, and this is its tree
pub record IsProgramText (text : List ℕ) (tree : ProgramSyntax) : Type 0 where
  pub spelled : Spells text tree
  pub program : Program
  pub numbered : Resolves tree program

-- each text is a program by itself, and together they are this one, with its claims
pub record AreReadAs (texts : List (List ℕ)) (trees : List ProgramSyntax) (program : Program) (claims : Table)
    : Type 0 where
  pub each : AllZip IsProgramText texts trees
  pub joint : IsJointProgram trees program claims

-- ---- what texts and processes are called

-- whether there are several texts
abbrev pub are_several : {T : Type 0} → List T → Bool
are_several texts = nat_lt 1 (length texts)

-- what a process is called: its name, and the number of its text, if there are several texts
pub record FullName : Type 0 where
  pub name : Name
  pub text : Option ℕ

-- the number of a text, if there are several
abbrev pub number_among : (several : Bool) → (number : ℕ) → Option ℕ
number_among several number = cond several (Some number) None

-- the processes of a text of this number
abbrev pub names_in : (several : Bool) → (number : ℕ) → List ProcessSyntax → List FullName
names_in several number processes =
    map (λ process. record { name = process.name.text; text = number_among several number }) processes

-- the processes of texts, of which the first has this number
abbrev pub names_from : (several : Bool) → (number : ℕ) → List ProgramSyntax → List FullName
names_from several number [] = []
names_from several number (tree ∷ trees) =
    names_in several number tree.processes ++ names_from several (number + 1) trees

-- the processes of all texts
abbrev pub names_of : List ProgramSyntax → List FullName
names_of trees = names_from (are_several trees) 1 trees

-- ---- faults

-- the trees are those of one program together; or there are none
abbrev pub GoTogether : List ProgramSyntax → Type 0
GoTogether trees =
    (trees ≡ []) ⊎ ((whole : ProgramSyntax) × (program : Program) × AreJoined trees whole × Resolves whole program)

-- the text has this fault by itself; or it is a program by itself, and the fault is one of names, of this text together
-- with those before it, which have these trees
pub data HasFault (trees : List ProgramSyntax) (text : List ℕ) : CompileFault → Type 0 where
  alone : (fault : CompileFault) → IsRefused text fault → IsBeforeClaims fault → HasFault trees text fault
  together : (tree whole : ProgramSyntax) (fault : NameFault) → IsProgramText text tree
      → AreJoined (trees ++ tree ∷ []) whole → IsFault whole fault → HasFault trees text (of_names fault)

-- the text of this index has this fault, and those before it go together
pub record IsFirstFault (texts : List (List ℕ)) (index : ℕ) (fault : CompileFault) : Type 0 where
  pub trees : List ProgramSyntax
  pub before : AllZip IsProgramText (take index texts) trees
  pub fit : GoTogether trees
  pub text : List ℕ
  pub at : slice_get texts index ≡ Some text
  pub found : HasFault trees text fault

-- the texts are refused for this: it is out of memory, or the first fault
abbrev pub AreRefused : List (List ℕ) → TextFault → Type 0
AreRefused texts it = (it.fault ≡ Memory) ⊎ IsFirstFault texts it.index it.fault

-- ---- the texts so far

-- these texts are programs by themselves, with these trees, which are joined; the program is that of the joined tree,
-- if there is a text yet, and the names are those of its processes
pub record AreSoFar (several : Bool) (texts : List (List ℕ)) (trees : List ProgramSyntax) (whole : ProgramSyntax)
    (program : Option Program) (called : List FullName) : Type 0 where
  pub each : AllZip IsProgramText texts trees
  pub joined : AreJoined trees whole
  pub numbered : MatchOption program (trees ≡ []) (Resolves whole)
  pub named : called ≡ names_from several 1 trees
  pub many : length called ≡ length whole.processes
