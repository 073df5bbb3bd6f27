mod Judgements
mod Conditions
mod Counted
mod TypedTexts
mod Modest
pub mod Meanings
mod Formulas
mod Lookups
mod Names
mod Parts
mod Fairness
mod Transitions
mod DrawnTransitions
mod ItemEnds
mod NetItems
mod Nets
mod Levels
mod Nested
mod Numerals
mod NodeParts
mod DrawnNodes
mod Edges
mod ItemKinds
mod Items
mod Drawings
mod Manners
mod Rules
mod GoalEnds
mod Invariances
mod WaitingGoals
mod Waits
mod Responses
mod Steps
pub mod Scripts
mod TextEnds
pub mod Growing
