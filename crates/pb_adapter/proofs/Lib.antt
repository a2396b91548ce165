pub mod ArmLemmas
pub mod FloatFree
pub mod RefusedLines
pub mod ReplyLemmas
