pub mod StandingText
