-- What a measure says. No public contract cites this file.
use Rattle.std.specs.Prelude.{◌≡◌, ℕ}
use Rattle.pb_tree.specs.Measure.{saturated}
use Rattle.pb_parser.specs.declared.measure.Measure.{Measure}

-- the measure says this height and this count of nodes, each as a number that stays at the greatest u64
pub record IsMeasure (m : Measure) (height nodes : ℕ) : Type 0 where
  pub is_high : m.height ≡ saturated height
  pub is_large : m.nodes ≡ saturated nodes
