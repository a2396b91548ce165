use Rattle.std.proofs.Common.{ap, sym}
use Rattle.pb_explain.specs.Entries.{entry_of}
use Rattle.pb_explain.proofs.entries.entry_at.Goals as goal

pub returns-in-L1 : goal.returns-in-L1
unfolding entry_of
returns-in-L1 c = ap entry_of (sym c.in-L1.is)

pub returns-in-L2 : goal.returns-in-L2
unfolding entry_of
returns-in-L2 c = ap entry_of (sym c.in-L2.is)

pub returns-in-L3 : goal.returns-in-L3
unfolding entry_of
returns-in-L3 c = ap entry_of (sym c.in-L3.is)

pub returns-in-L4 : goal.returns-in-L4
unfolding entry_of
returns-in-L4 c = ap entry_of (sym c.in-L4.is)

pub returns-in-P1 : goal.returns-in-P1
unfolding entry_of
returns-in-P1 c = ap entry_of (sym c.in-P1.is)

pub returns-in-P2 : goal.returns-in-P2
unfolding entry_of
returns-in-P2 c = ap entry_of (sym c.in-P2.is)

pub returns-in-P3 : goal.returns-in-P3
unfolding entry_of
returns-in-P3 c = ap entry_of (sym c.in-P3.is)

pub returns-in-N1 : goal.returns-in-N1
unfolding entry_of
returns-in-N1 c = ap entry_of (sym c.in-N1.is)

pub returns-in-N2 : goal.returns-in-N2
unfolding entry_of
returns-in-N2 c = ap entry_of (sym c.in-N2.is)

pub returns-in-N3 : goal.returns-in-N3
unfolding entry_of
returns-in-N3 c = ap entry_of (sym c.in-N3.is)

pub returns-in-N4 : goal.returns-in-N4
unfolding entry_of
returns-in-N4 c = ap entry_of (sym c.in-N4.is)

pub returns-in-N6 : goal.returns-in-N6
unfolding entry_of
returns-in-N6 c = ap entry_of (sym c.in-N6.is)

pub returns-in-C1 : goal.returns-in-C1
unfolding entry_of
returns-in-C1 c = ap entry_of (sym c.in-C1.is)

pub returns-in-E1 : goal.returns-in-E1
unfolding entry_of
returns-in-E1 c = ap entry_of (sym c.in-E1.is)

pub returns-in-O1 : goal.returns-in-O1
unfolding entry_of
returns-in-O1 c = ap entry_of (sym c.in-O1.is)

pub returns-in-O2 : goal.returns-in-O2
unfolding entry_of
returns-in-O2 c = ap entry_of (sym c.in-O2.is)

pub returns-in-V1 : goal.returns-in-V1
unfolding entry_of
returns-in-V1 c = ap entry_of (sym c.in-V1.is)

pub returns-in-V2 : goal.returns-in-V2
unfolding entry_of
returns-in-V2 c = ap entry_of (sym c.in-V2.is)

pub returns-in-V3 : goal.returns-in-V3
unfolding entry_of
returns-in-V3 c = ap entry_of (sym c.in-V3.is)

pub returns-in-V4 : goal.returns-in-V4
unfolding entry_of
returns-in-V4 c = ap entry_of (sym c.in-V4.is)

pub returns-in-V5 : goal.returns-in-V5
unfolding entry_of
returns-in-V5 c = ap entry_of (sym c.in-V5.is)

pub returns-in-V6 : goal.returns-in-V6
unfolding entry_of
returns-in-V6 c = ap entry_of (sym c.in-V6.is)

pub returns-in-V7 : goal.returns-in-V7
unfolding entry_of
returns-in-V7 c = ap entry_of (sym c.in-V7.is)

pub returns-in-V8 : goal.returns-in-V8
unfolding entry_of
returns-in-V8 c = ap entry_of (sym c.in-V8.is)

pub returns-in-V9 : goal.returns-in-V9
unfolding entry_of
returns-in-V9 c = ap entry_of (sym c.in-V9.is)

pub returns-in-K1 : goal.returns-in-K1
unfolding entry_of
returns-in-K1 c = ap entry_of (sym c.in-K1.is)

pub returns-in-K2 : goal.returns-in-K2
unfolding entry_of
returns-in-K2 c = ap entry_of (sym c.in-K2.is)

pub returns-in-H1 : goal.returns-in-H1
unfolding entry_of
returns-in-H1 c = ap entry_of (sym c.in-H1.is)

pub returns-in-G1 : goal.returns-in-G1
unfolding entry_of
returns-in-G1 c = ap entry_of (sym c.in-G1.is)

pub returns-in-G2 : goal.returns-in-G2
unfolding entry_of
returns-in-G2 c = ap entry_of (sym c.in-G2.is)

pub returns-in-G3 : goal.returns-in-G3
unfolding entry_of
returns-in-G3 c = ap entry_of (sym c.in-G3.is)

pub returns-in-G4 : goal.returns-in-G4
unfolding entry_of
returns-in-G4 c = ap entry_of (sym c.in-G4.is)

pub returns-in-B1 : goal.returns-in-B1
unfolding entry_of
returns-in-B1 c = ap entry_of (sym c.in-B1.is)

pub returns-in-B2 : goal.returns-in-B2
unfolding entry_of
returns-in-B2 c = ap entry_of (sym c.in-B2.is)

pub returns-in-B3 : goal.returns-in-B3
unfolding entry_of
returns-in-B3 c = ap entry_of (sym c.in-B3.is)

pub returns-in-B4 : goal.returns-in-B4
unfolding entry_of
returns-in-B4 c = ap entry_of (sym c.in-B4.is)

pub returns-in-B5 : goal.returns-in-B5
unfolding entry_of
returns-in-B5 c = ap entry_of (sym c.in-B5.is)

pub returns-in-B6 : goal.returns-in-B6
unfolding entry_of
returns-in-B6 c = ap entry_of (sym c.in-B6.is)

pub returns-in-B7 : goal.returns-in-B7
unfolding entry_of
returns-in-B7 c = ap entry_of (sym c.in-B7.is)

pub returns-in-B8 : goal.returns-in-B8
unfolding entry_of
returns-in-B8 c = ap entry_of (sym c.in-B8.is)

pub returns-in-B9 : goal.returns-in-B9
unfolding entry_of
returns-in-B9 c = ap entry_of (sym c.in-B9.is)

pub returns-in-B10 : goal.returns-in-B10
unfolding entry_of
returns-in-B10 c = ap entry_of (sym c.in-B10.is)

pub returns-in-B11 : goal.returns-in-B11
unfolding entry_of
returns-in-B11 c = ap entry_of (sym c.in-B11.is)

pub returns-in-B12 : goal.returns-in-B12
unfolding entry_of
returns-in-B12 c = ap entry_of (sym c.in-B12.is)

pub returns-in-B13 : goal.returns-in-B13
unfolding entry_of
returns-in-B13 c = ap entry_of (sym c.in-B13.is)

pub returns-in-B14 : goal.returns-in-B14
unfolding entry_of
returns-in-B14 c = ap entry_of (sym c.in-B14.is)

pub returns-in-W1 : goal.returns-in-W1
unfolding entry_of
returns-in-W1 c = ap entry_of (sym c.in-W1.is)

pub returns-in-W2 : goal.returns-in-W2
unfolding entry_of
returns-in-W2 c = ap entry_of (sym c.in-W2.is)

pub returns-in-W3 : goal.returns-in-W3
unfolding entry_of
returns-in-W3 c = ap entry_of (sym c.in-W3.is)

pub returns-in-Input : goal.returns-in-Input
unfolding entry_of
returns-in-Input c = ap entry_of (sym c.in-Input.is)

pub returns-in-Output : goal.returns-in-Output
unfolding entry_of
returns-in-Output c = ap entry_of (sym c.in-Output.is)
