-- What there is to say of each code.
use Rattle.pb_options.specs.declared.code.Code.{Code}
use Rattle.pb_options.specs.declared.code.Code.TheVariants as code
use Rattle.pb_explain.specs.Explanation.{Explanation}
use Rattle.pb_explain.specs.Texts.{l1-entry, l2-entry, l3-entry, l4-entry, p1-entry, p2-entry, p3-entry, input-entry}
use Rattle.pb_explain.specs.Texts.{output-entry}
use Rattle.pb_explain.specs.Names.{n1-entry, n2-entry, n3-entry, n4-entry, n6-entry, c1-entry, e1-entry}
use Rattle.pb_explain.specs.Objects.{o1-entry, o2-entry, v1-entry, v2-entry, v3-entry, v4-entry, v5-entry, v6-entry}
use Rattle.pb_explain.specs.Objects.{v7-entry, v8-entry, v9-entry}
use Rattle.pb_explain.specs.Runs.{k1-entry, k2-entry, h1-entry, g1-entry, g2-entry, g3-entry, g4-entry}
use Rattle.pb_explain.specs.Bank.{b1-entry, b2-entry, b3-entry, b4-entry, b5-entry, b6-entry, b7-entry, b8-entry}
use Rattle.pb_explain.specs.Bank.{b9-entry, b10-entry, b11-entry, b12-entry, b13-entry, b14-entry}
use Rattle.pb_explain.specs.Warnings.{w1-entry, w2-entry, w3-entry}

-- what there is to say of a code
unfoldable pub entry_of : Code → Explanation
entry_of code.L1 = l1-entry
entry_of code.L2 = l2-entry
entry_of code.L3 = l3-entry
entry_of code.L4 = l4-entry
entry_of code.P1 = p1-entry
entry_of code.P2 = p2-entry
entry_of code.P3 = p3-entry
entry_of code.N1 = n1-entry
entry_of code.N2 = n2-entry
entry_of code.N3 = n3-entry
entry_of code.N4 = n4-entry
entry_of code.N6 = n6-entry
entry_of code.C1 = c1-entry
entry_of code.E1 = e1-entry
entry_of code.O1 = o1-entry
entry_of code.O2 = o2-entry
entry_of code.V1 = v1-entry
entry_of code.V2 = v2-entry
entry_of code.V3 = v3-entry
entry_of code.V4 = v4-entry
entry_of code.V5 = v5-entry
entry_of code.V6 = v6-entry
entry_of code.V7 = v7-entry
entry_of code.V8 = v8-entry
entry_of code.V9 = v9-entry
entry_of code.K1 = k1-entry
entry_of code.K2 = k2-entry
entry_of code.H1 = h1-entry
entry_of code.G1 = g1-entry
entry_of code.G2 = g2-entry
entry_of code.G3 = g3-entry
entry_of code.G4 = g4-entry
entry_of code.B1 = b1-entry
entry_of code.B2 = b2-entry
entry_of code.B3 = b3-entry
entry_of code.B4 = b4-entry
entry_of code.B5 = b5-entry
entry_of code.B6 = b6-entry
entry_of code.B7 = b7-entry
entry_of code.B8 = b8-entry
entry_of code.B9 = b9-entry
entry_of code.B10 = b10-entry
entry_of code.B11 = b11-entry
entry_of code.B12 = b12-entry
entry_of code.B13 = b13-entry
entry_of code.B14 = b14-entry
entry_of code.W1 = w1-entry
entry_of code.W2 = w2-entry
entry_of code.W3 = w3-entry
entry_of code.Input = input-entry
entry_of code.Output = output-entry
