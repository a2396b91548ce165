use Rattle.std.proofs.Common.{◌≡◌, ℕ, true, false, refl, arith, Some}
use Rattle.std.specs.Prelude.{slice_get}
use Rattle.std.proofs.lemmas.List.{length-map}
use Rattle.pb_code.specs.Code.{Instr, ProcessCode}
use Rattle.pb_object.specs.Formats.{IsSingle}
use Rattle.pb_code.specs.View.{code_view, process_view}
use Rattle.pb_code.proofs.ListElements.{each_more, each_all, read_mapped}
use Rattle.pb_object.proofs.first.fits_first.Goals as goal

abbrev AreSingle : ℕ → ProcessCode → Type 0
AreSingle _ process = (place : ℕ) (i : Instr) → slice_get process.instrs place ≡ Some i → IsSingle i

pub returns-then-not-are_single : goal.returns-then-not-are_single
returns-then-not-are_single c =
    let read = read_mapped process_view c.args.code.now.processes.items c.loop-p.p c.index.result.now (omega arith) c.index.ensures in
    (λ e. let wrong : false ≡ true = e in cc, λ first. c.if-not-are_single.ensures.1 (first.single c.loop-p.p _ read))

pub loop-p-preserved : goal.loop-p-preserved
loop-p-preserved c =
    let read = read_mapped process_view c.args.code.now.processes.items c.loop-p.p c.index.result.now (omega arith) c.index.ensures in
    each_more (code_view c.args.code.now).processes c.loop-p.p _ AreSingle read c.loop-p.invariant (c.if-not-are_single.ensures.0 refl)

pub returns : goal.returns
returns c =
    let n = length-map c.args.code.now.processes.items process_view in (
      λ _. record {
        few_processes = omega (arith, n);
        single = each_all (code_view c.args.code.now).processes c.loop-p.p AreSingle (omega (arith, n)) c.loop-p.invariant;
      },
      λ _. refl,
    )
