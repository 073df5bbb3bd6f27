pub mod Bisimulation
