pub mod MediaLemmas
