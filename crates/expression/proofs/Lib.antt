pub mod Parts
mod Fitting
mod Standing
mod Laying
mod Muting
pub mod Judging
pub mod Meaning
pub mod Letters
pub mod Members
pub mod RankLaws
pub mod Strict
pub mod Total
pub mod Firsts
pub mod EmptyTrees
pub mod Beginnings
pub mod Greedy
pub mod FirstTree
pub mod Decoding
pub mod Unroll
pub mod RouteOrder
pub mod TreeTheorems
pub mod WorkedLines
pub mod Placing
pub mod Walking
pub mod Finishing
pub mod PlaceRange
pub mod PlaceTheorems
pub mod Sizes
pub mod Along
pub mod Visiting
pub mod Writing
pub mod Passing
pub mod EmptyTurns
