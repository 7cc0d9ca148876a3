mod CrateLemmas
mod DayLemmas
mod FaultLemmas
mod FormLemmas
mod ItemLemmas
mod LevelLemmas
mod PolicyLemmas
