pub mod ConversationLemmas
pub mod Replies
pub mod WrittenTexts
