pub mod ConversationLemmas
pub mod DocumentLemmas
pub mod FloatFree
pub mod ParamLemmas
