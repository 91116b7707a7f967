-- Refusals. `Refusal` is what a reader must believe, `RefusalLaws` has its laws, and `Examples` has the documents' numbers.
pub mod Refusal
pub mod RefusalLaws
pub mod Examples
