-- The fault that is told of a program.
use Rattle.std.proofs.Common.{ℕ, Some, None, refl, arith}
use Rattle.pb_tree.specs.Syntax.{ProgramSyntax}
use Rattle.pb_names.specs.Causes.{Causes, InProgram}
use Rattle.pb_names.specs.Faults.{told, IsFirstCause, IsFault}
use Rattle.pb_names.specs.Limits.{IsWithinLimits, IsTooMany}
use Rattle.pb_names.specs.Search.{IsFirst, IsFree}
use Rattle.pb_names.specs.declared.causes.Cause.{Cause}
use Rattle.pb_names.specs.declared.causes.Wrong.{Wrong}
use Rattle.pb_names.specs.declared.fault.Kind.{Kind}
use Rattle.pb_names.specs.declared.causes.Wrong.TheVariants.{Twice, Unknown, Amount, Repeated}

first_cause : (program : ProgramSyntax) (cause : Cause) → IsWithinLimits program
    → IsFirst (InProgram program) (Some cause) → IsFirstCause program cause
first_cause program cause within first = record {
  within = within;
  stands = first.stands cause refl;
  first = λ other h. first.least cause other refl h;
}

-- the first cause is told
pub told_first : (program : ProgramSyntax) (at : ℕ) (wrong : Wrong) → IsWithinLimits program
    → IsFirst (InProgram program) (Some (record { at = at; wrong = wrong })) → IsFault program (told wrong at)
told_first program at Twice within first = first_cause program _ within first
told_first program at Unknown within first = first_cause program _ within first
told_first program at Amount within first = first_cause program _ within first
told_first program at Repeated within first = first_cause program _ within first

-- if none is found there is none
pub none_free : (P : Causes) → IsFirst P None → IsFree P
none_free P first = record { free = first.none refl }

-- a program within its limits has too many of no kind
pub none_too_many : (program : ProgramSyntax) (kind : Kind) → IsWithinLimits program → IsTooMany program kind → ⊥
none_too_many program kind limits many = let few = limits.within kind in let passed = many.passed in omega arith
