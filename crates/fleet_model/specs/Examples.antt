pub mod OneStation
