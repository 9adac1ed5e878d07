pub mod SealingLemmas
pub mod SealingLaws
pub mod OpenedLaws
pub mod SealedLaws
pub mod OpenAnswers
pub mod PairLemmas
pub mod CacheLaws
