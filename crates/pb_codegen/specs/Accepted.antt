-- What is known of a program once all is checked that is checked before its code is generated.
use Rattle.std.specs.Prelude.{◌≡◌}
use Rattle.pb_base.specs.Steppers.{Table}
use Rattle.pb_tree.specs.Syntax.{ProgramSyntax}
use Rattle.pb_parser.specs.Limits.{IsSmallTree}
use Rattle.pb_names.specs.Meaning.{AreClaims}
use Rattle.pb_names.specs.Program.{Program, capital_of}
use Rattle.pb_names.specs.Resolves.{Resolves}
use Rattle.pb_claims.specs.Fits.{FitCapital}
use Rattle.pb_verifier.specs.declared.fault.VerifyFault.{VerifyFault}
use Rattle.pb_verifier.specs.declared.fault.VerifyFault.TheVariants.{NoMemory}
use Rattle.pb_verifier.specs.Behaviour.{IsWellBehaved}
use Rattle.pb_verifier.specs.Verified.{IsFaultless, IsRefusedFor}
use Rattle.pb_codegen.specs.Form.{IsFormed}
use Rattle.pb_generator.specs.Generate.{program_code}
use Rattle.pb_generator.specs.Sizes.{IsGeneratable}
use Rattle.pb_codegen.specs.SourceBehaviour.{KeepsClaims}

-- the tree was read, and is within its limits; the program has numbers in place of its names; the capital is
-- enough for its claims
pub record CanBeCompiled (tree : ProgramSyntax) (program : Program) (claims : Table) : Type 0 where
  pub formed : IsFormed tree
  pub limits : IsSmallTree tree
  pub numbered : Resolves tree program
  pub claimed : AreClaims program claims
  pub enough : FitCapital claims (capital_of program)

-- what is then true of it and its code: the code can be generated, it has none of the faults that the
-- verifier looks for, and so a refusal comes only if out of memory; it is well behaved; and the program keeps
-- its claims
pub record HasSoundCode (program : Program) (claims : Table) : Type 0 where
  pub generatable : IsGeneratable program
  pub faultless : IsFaultless (program_code program claims)
  pub memory_alone : (fault : VerifyFault) → IsRefusedFor (program_code program claims) fault
      → fault ≡ NoMemory
  pub behaves : IsWellBehaved (program_code program claims)
  pub keeps : KeepsClaims program claims
