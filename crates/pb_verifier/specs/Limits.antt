-- Code whose counts, numbers and names are within their limits, as pb_code defines it.
pub use Rattle.pb_code.specs.Limits.{
  IsUpTo,
  EachProcess,
  IsName,
  AreNames,
  IsSmallBundle,
  HasSmallNumbers,
  IsSmallProcess,
  KeepsLimits,
  HasSmallPushes,
  PushesFit,
}
pub use Rattle.pb_code.specs.Names.{is_name_byte, reserved_words}
