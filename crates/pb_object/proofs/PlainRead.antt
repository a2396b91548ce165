-- What a line says that neither takes nor gives names no bundle.
use Rattle.std.proofs.Common.{◌≡◌, ℕ, List, [], sym, ap, ◌∙◌}
use Rattle.pb_base.specs.declared.pair.Pair.{Pair}
use Rattle.pb_object.specs.declared.words.Verdict.{Verdict}
use Rattle.pb_object.specs.declared.words.Verdict.TheVariants.{Malformed, Beyond, Read}
use Rattle.pb_code.specs.declared.instr.Instr.{Instr as Given}
use Rattle.pb_code.specs.Names.{Word}
use Rattle.pb_object.specs.Words.{mapped}
use Rattle.pb_object.specs.Instructions.{plain}
use Rattle.pb_code.specs.View.{instr_view}
use Rattle.pb_object.specs.Rows.{IfRead}
use Rattle.pb_code.specs.Bundles.{NamesBelow}
use Rattle.pb_code.proofs.BundleTables.{plain_same, plain_names}
use Rattle.pb_object.proofs.InstrForms.{plain_is}

pub plain_view : (bundles : List (List Pair)) (k : Word) (ws : List Word) (v : Verdict Given)
    → v ≡ plain k ws → mapped (instr_view bundles) v ≡ mapped (instr_view []) (plain k ws)
plain_view bundles k ws Malformed e = ap (mapped (instr_view [])) e
plain_view bundles k ws Beyond e = ap (mapped (instr_view [])) e
plain_view bundles k ws (Read i) e =
    ap Read (plain_same bundles [] i (plain_is k ws i (sym e))) ∙ ap (mapped (instr_view [])) e

pub plain_names_read : (n : ℕ) (k : Word) (ws : List Word) (v : Verdict Given)
    → v ≡ plain k ws → IfRead v (NamesBelow n)
plain_names_read n k ws Malformed e = tt
plain_names_read n k ws Beyond e = tt
plain_names_read n k ws (Read i) e = plain_names n i (plain_is k ws i (sym e))
