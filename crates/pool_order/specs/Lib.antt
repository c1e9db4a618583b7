pub mod PoolTurn
